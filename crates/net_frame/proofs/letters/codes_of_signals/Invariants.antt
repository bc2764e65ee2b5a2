use Rattle.std.proofs.Common.{◌≡◌, map}
use Rattle.std.specs.List.{range_with_len}
use Rattle.net_model.specs.Nets.{net_of}
use Rattle.net_frame.specs.Frames.{signal_spot}
use Rattle.net_frame.proofs.letters.codes_of_signals.Given as goal

abbrev pub invariant-loop-signal : goal.invariant-loop-signal
invariant-loop-signal l = l.codes.items ≡ map (signal_spot l.mode l.joint (net_of l.net) l.start) (range_with_len 0 l.signal)
