use Rattle.std.proofs.Common.{◌≡◌, ◌-◌, ◌≤◌, length, take}
use Rattle.io_core.specs.Gained.{gained}
use Rattle.io_core.proofs.sink.write_all.Given as goal

abbrev pub invariant-loop-done : goal.invariant-loop-done
invariant-loop-done g l =
    let sink = g.O.Sink in
    record {
      within : l.done ≤ length l.bytes;
      so_far : sink.contents l.sink ≡ gained (sink.contents l.fn.sink) (take l.done l.bytes);
      faults : sink.faults l.fn.sink ≤ sink.faults l.sink;
      wants : sink.wants l.fn.sink ≤ sink.wants l.sink;
    }

abbrev pub decreases-loop-done : goal.decreases-loop-done
decreases-loop-done g l = length l.bytes - l.done
