use Rattle.std.proofs.Common.{◌≡◌, ◌⊎◌, Bool, true, false, cond, Some, refl, sym, ap, ◌∙◌, inl, inr, arith}
use Rattle.indexmap.specs.IndexMap.{get}
use Rattle.bdd_walk.specs.declared.pairs.Pair.{Pair}
use Rattle.bdd_walk.specs.Splitting.{is_pair, IsNoted}
use Rattle.bdd_walk.proofs.Nodes.{same-some}
use Rattle.bdd_walk.proofs.split_memo.SplitMemo.note.Goals as goal

same-pair : (p q : Pair) → is_pair p q ≡ true → q ≡ p
same-pair p q same = grind arith

pub returns-in-Ok-clause-noted : goal.returns-in-Ok-clause-noted
returns-in-Ok-clause-noted c p k noted = by (is_pair c.args.pair.now p) refl
  where
    by : (b : Bool) → is_pair c.args.pair.now p ≡ b → ((p ≡ c.args.pair.now) × (k ≡ c.len-place.result)) ⊎ IsNoted c.args.self.now p k
    by true same =
        inl (
          same-pair c.args.pair.now p same,
          same-some k c.len-place.result (sym noted ∙ c.in-Ok.ensures.updates.0 p ∙ ap (λ b. cond b (Some c.len-place.result) (get is_pair c.args.self.now.places p)) same),
        )
    by false other =
        inr (sym (c.in-Ok.ensures.updates.0 p ∙ ap (λ b. cond b (Some c.len-place.result) (get is_pair c.args.self.now.places p)) other) ∙ noted)
