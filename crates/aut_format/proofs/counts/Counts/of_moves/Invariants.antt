use Rattle.std.proofs.Common.{◌≡◌, ◌+◌, ◌≤◌, ◌-◌, ◌^◌, length, drop}
use Rattle.aut_format.specs.Counts.{at_most_64_bits, paths_of_moves}
use Rattle.aut_format.specs.Memos.{AreRight}
use Rattle.aut_format.proofs.counts.Counts.of_moves.Given as goal

abbrev pub invariant-loop-m : goal.invariant-loop-m
invariant-loop-m l = record {
  right : AreRight l.space l.self;
  few : l.count ≤ 2 ^ 64 - 1;
  counted : at_most_64_bits (l.count + length (paths_of_moves l.space (drop l.m-index l.moves))) ≡ at_most_64_bits (length (paths_of_moves l.space l.moves));
}
