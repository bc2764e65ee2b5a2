use Rattle.std.proofs.Common.{◌≡◌, ◌⊎◌, Bool, true, false, cond, nat_eq, Some, refl, sym, ap, ◌∙◌, inl, inr}
use Rattle.indexmap.specs.IndexMap.{get}
use Rattle.bdd_walk.proofs.Nodes.{same-some}
use Rattle.bdd_walk.proofs.joins.put.Goals as goal

pub returns-in-Ok-clause-put : goal.returns-in-Ok-clause-put
returns-in-Ok-clause-put c r e known = by (nat_eq c.args.left r) refl
  where
    by : (b : Bool) → nat_eq c.args.left r ≡ b → (e ≡ c.args.both) ⊎ (get nat_eq c.args.ends.now r ≡ Some e)
    by true same = inl (same-some e c.args.both (sym known ∙ c.in-Ok.ensures.updates.0 r ∙ ap (λ b. cond b (Some c.args.both) (get nat_eq c.args.ends.now r)) same))
    by false other = inr (sym (c.in-Ok.ensures.updates.0 r ∙ ap (λ b. cond b (Some c.args.both) (get nat_eq c.args.ends.now r)) other) ∙ known)
