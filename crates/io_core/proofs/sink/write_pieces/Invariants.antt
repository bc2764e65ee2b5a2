use Rattle.std.proofs.Common.{◌≡◌, ◌≤◌, take}
use Rattle.io_core.specs.Gained.{gained, joined}
use Rattle.io_core.proofs.sink.write_pieces.Given as goal

abbrev pub invariant-loop-piece : goal.invariant-loop-piece
invariant-loop-piece g l =
    let sink = g.O.Sink in
    record {
      so_far : sink.contents l.sink ≡ gained (sink.contents l.initial.sink) (joined (take l.piece-index l.pieces));
      faults : sink.faults l.initial.sink ≤ sink.faults l.sink;
      wants : sink.wants l.initial.sink ≤ sink.wants l.sink;
    }
