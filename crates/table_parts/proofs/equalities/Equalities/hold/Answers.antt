use Rattle.std.proofs.Common.{arith, refl, sym, ap, ◌∙◌, inl, inr, ◌≡◌, ◌⊎◌, ℕ, Bool, true, false, Some, cond}
use Rattle.indexmap.specs.IndexMap.{get}
use Rattle.table_parts.specs.declared.equalities.Pair.{Pair}
use Rattle.table_parts.specs.Held.{IsHeld, is_pair}
use Rattle.table_parts.proofs.equalities.Equalities.hold.Goals as goal

same-pair : (p q : Pair) → is_pair p q ≡ true → q ≡ p
same-pair p q same = grind arith

same-some : (r s : ℕ) → Some r ≡ Some s → s ≡ r
same-some r s e = cc

pub returns-in-Ok-clause-held : goal.returns-in-Ok-clause-held
returns-in-Ok-clause-held c other s held = by (is_pair c.args.pair.now other) refl
  where
    by : (b : Bool) → is_pair c.args.pair.now other ≡ b → ((other ≡ c.args.pair.now) × (s ≡ c.args.r)) ⊎ IsHeld c.args.self.now other s
    by true same =
        inl (
          same-pair c.args.pair.now other same,
          same-some c.args.r s (sym (c.in-Ok.ensures.updates.0 other ∙ ap (λ b. cond b (Some c.args.r) (get is_pair c.args.self.now.built other)) same) ∙ held),
        )
    by false differ =
        inr (sym (c.in-Ok.ensures.updates.0 other ∙ ap (λ b. cond b (Some c.args.r) (get is_pair c.args.self.now.built other)) differ) ∙ held)
