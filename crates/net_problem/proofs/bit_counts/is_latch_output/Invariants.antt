use Rattle.std.proofs.Common.{◌≡◌, drop, map, nat_eq}
use Rattle.std.specs.List.{list_any}
use Rattle.net_model.specs.Conditions.{latch_outputs}
use Rattle.net_model.specs.Nets.{net_of, latch_of}
use Rattle.net_problem.proofs.bit_counts.is_latch_output.Given as goal

abbrev pub invariant-loop-latch : goal.invariant-loop-latch
invariant-loop-latch l =
    list_any (nat_eq l.signal.0) (map (λ latch. latch.output) (map latch_of (drop l.latch-index l.net.latches.items))) ≡ list_any (nat_eq l.signal.0) (latch_outputs (net_of l.net))
