use Rattle.std.proofs.Common.{◌≡◌, ◌+◌, ◌++◌, map, length}
use Rattle.std.specs.List.{range_with_len}
use Rattle.net_frame.proofs.latches.push_shifted.Given as goal

abbrev pub invariant-loop-k : goal.invariant-loop-k
invariant-loop-k l = record {
  pairs : l.pairs.items ≡ l.fn.pairs.items ++ map (λ k. (l.level + l.bits + k, l.level + k)) (range_with_len 0 l.k);
  few : length l.pairs.items ≡ length l.fn.pairs.items + l.k;
}
