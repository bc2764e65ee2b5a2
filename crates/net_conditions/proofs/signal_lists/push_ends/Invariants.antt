use Rattle.std.proofs.Common.{◌≡◌, [], ◌∷◌, ◌++◌, map, take}
use Rattle.std.specs.List.{flat_map}
use Rattle.net_model.specs.Nets.{latch_of}
use Rattle.net_conditions.proofs.signal_lists.push_ends.Given as goal

abbrev pub invariant-loop-latch : goal.invariant-loop-latch
invariant-loop-latch l =
    map (λ v. v.0) l.signals.items
    ≡ map (λ v. v.0) l.fn.signals.items
    ++ flat_map (λ latch. latch.input ∷ latch.output ∷ []) (map latch_of (take l.latch-index l.latches))
