use Rattle.std.proofs.Common.{◌≡◌, ◌+◌, ◌++◌, map, take}
use Rattle.std.specs.List.{range_with_len}
use Rattle.sync_solve.proofs.coding.with_codes.Given as goal

abbrev pub invariant-loop-k : goal.invariant-loop-k
invariant-loop-k l = l.pairs.items ≡ take l.k l.back

abbrev pub invariant-loop-k-2 : goal.invariant-loop-k-2
invariant-loop-k-2 l = l.pairs.items ≡ l.back ++ map (λ k. (l.first + l.digits + k, l.first + k)) (range_with_len 0 l.k)
