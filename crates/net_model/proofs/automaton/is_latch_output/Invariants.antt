use Rattle.std.proofs.Common.{◌≡◌, drop, map, nat_eq}
use Rattle.std.specs.List.{list_any}
use Rattle.net_model.specs.Nets.{latch_of}
use Rattle.net_model.proofs.automaton.is_latch_output.Given as goal

abbrev pub invariant-loop-latch : goal.invariant-loop-latch
invariant-loop-latch l =
    list_any (nat_eq l.signal.0) (map (λ latch. latch.output) (map latch_of (drop l.latch-index l.latches)))
    ≡ list_any (nat_eq l.signal.0) (map (λ latch. latch.output) (map latch_of l.latches))
