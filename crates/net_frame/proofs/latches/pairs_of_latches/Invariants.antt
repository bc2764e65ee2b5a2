use Rattle.std.proofs.Common.{◌≡◌, ◌*◌, ◌≤◌, length}
use Rattle.std.specs.List.{flat_map, range_with_len}
use Rattle.net_model.specs.Nets.{net_of}
use Rattle.net_frame.specs.Frames.{back_from}
use Rattle.net_frame.proofs.latches.pairs_of_latches.Given as goal

abbrev pub invariant-loop-signal : goal.invariant-loop-signal
invariant-loop-signal l = record {
  pairs : l.pairs.items ≡ flat_map (back_from (net_of l.net) l.start) (range_with_len 0 l.signal);
  few : length l.pairs.items ≤ 32 * l.signal;
}
