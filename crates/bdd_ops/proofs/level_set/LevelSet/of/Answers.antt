use Rattle.std.proofs.Common.{◌∙◌, ap, arith}
use Rattle.std.proofs.lemmas.List.Filters.{dedup_is}
use Rattle.std.proofs.lemmas.Map.Keys.{IsStrictlyIncreasing-dedup}
use Rattle.bdd_ops.specs.Levels.{is_in}
use Rattle.bdd_ops.proofs.Members.{is_in-dedup}
use Rattle.bdd_ops.proofs.level_set.LevelSet.of.Goals as goal

pub invariant_of-result : goal.invariant_of-result
invariant_of-result c = (
  rw (dedup_is _ _ _ c.dedup.ensures.filtered) (IsStrictlyIncreasing-dedup _ c.sort_unstable.ensures.sorted),
  omega (arith, c.dedup.ensures.bound, c.sort_unstable.ensures.len, c.in_ok-sorted.ensures.len),
)

pub returns : goal.returns
returns c = record {
  rises = rw (dedup_is _ _ _ c.dedup.ensures.filtered) (IsStrictlyIncreasing-dedup _ c.sort_unstable.ensures.sorted);
  same = λ k. rw (dedup_is _ _ _ c.dedup.ensures.filtered) (is_in-dedup _ _ c.sort_unstable.ensures.permutation k ∙ ap (λ l. is_in l k) c.in_ok-sorted.ensures.items);
}
