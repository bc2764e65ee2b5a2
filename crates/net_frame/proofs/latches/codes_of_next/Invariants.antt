use Rattle.std.proofs.Common.{◌≡◌, map, take}
use Rattle.net_model.specs.Nets.{net_of, latch_of}
use Rattle.net_frame.specs.Frames.{next_spot}
use Rattle.net_frame.proofs.latches.codes_of_next.Given as goal

abbrev pub invariant-loop-latch : goal.invariant-loop-latch
invariant-loop-latch l =
    l.codes.items ≡ map (next_spot (net_of l.net) l.start) (map (λ latch. latch.output) (map latch_of (take l.latch-index l.net.latches.items)))
