use Rattle.std.proofs.Common.{◌≡◌, ◌++◌, map, take}
use Rattle.net_model.specs.Nets.{latch_of}
use Rattle.net_conditions.proofs.signal_lists.push_latch_outputs.Given as goal

abbrev pub invariant-loop-latch : goal.invariant-loop-latch
invariant-loop-latch l =
    map (λ v. v.0) l.signals.items
    ≡ map (λ v. v.0) l.fn.signals.items ++ map (λ latch. latch.output) (map latch_of (take l.latch-index l.latches))
