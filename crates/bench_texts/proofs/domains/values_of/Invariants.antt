use Rattle.std.proofs.Common.{◌≡◌, ◌≤◌, ◌*◌, take, length, map}
use Rattle.std.specs.Prelude.{sum_by}
use Rattle.bench_texts.proofs.domains.values_of.Given as goal

-- the values of the names so far
abbrev pub invariant-loop-number : goal.invariant-loop-number
invariant-loop-number l =
    (l.count ≡ sum_by length (take l.number (map (λ v. v.values) l.names))) × (l.count ≤ 131072 * l.number)
