use Rattle.std.proofs.Common.{◌≡◌, ◌⊎◌, List, sym, ◌∙◌, subst, inl, inr}
use Rattle.std.proofs.lemmas.Bool.{eq-eqb, true≢false}
use Rattle.bdd_walk.specs.declared.splits.Piece.{Piece}
use Rattle.bdd_walk.specs.Splitting.{IsGathered}
use Rattle.bdd_walk.proofs.Gathered.{gathered-one}
use Rattle.bdd_walk.proofs.splits.one_piece.Goals as goal

pub returns-in-Ok-clause-ok : goal.returns-in-Ok-clause-ok
returns-in-Ok-clause-ok c =
    let P : List Piece → Type 0 = λ l. IsGathered c.args.space.now c.args.level c.args.pair.now l in
    let some : c.args.pair.now.within ≡ 0 → ⊥ = λ none. true≢false (sym (c.eq.ensures ∙ eq-eqb c.args.pair.now.within c.zero-zero.result (none ∙ sym c.zero-zero.ensures.number)) ∙ c.if-eq.false) in
    subst P (sym c.in-Ok.ensures.items) (gathered-one c.args.space.now c.args.level c.args.pair.now c.requires.valid (low c.requires.whole some) some)
  where
    low : {A B : Type 0} → A ⊎ B → (A → ⊥) → B
    low (inl none) some = absurd (some none)
    low (inr upto) some = upto
