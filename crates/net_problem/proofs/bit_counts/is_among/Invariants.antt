use Rattle.std.proofs.Common.{◌≡◌, drop, map, nat_eq}
use Rattle.std.specs.List.{list_any}
use Rattle.net_problem.proofs.bit_counts.is_among.Given as goal

abbrev pub invariant-loop-other : goal.invariant-loop-other
invariant-loop-other l =
    list_any (nat_eq l.signal.0) (map (λ v. v.0) (drop l.other-index l.signals)) ≡ list_any (nat_eq l.signal.0) (map (λ v. v.0) l.signals)
