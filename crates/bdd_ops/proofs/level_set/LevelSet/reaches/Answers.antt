use Rattle.std.proofs.Common.{◌≡◌, ◌-◌, ◌∙◌, sym, subst, List, ℕ, length, slice_get, Some}
use Rattle.std.specs.List.Sorted.{IsStrictlyIncreasing}
use Rattle.std.proofs.lemmas.Bool.{leb-true, le-leb}
use Rattle.bdd_ops.proofs.Members.{reaches-last}
use Rattle.bdd_ops.proofs.level_set.LevelSet.reaches.Goals as goal

pub returns-in-Some : goal.returns-in-Some
returns-in-Some c =
    let P : List ℕ → Type 0 = λ l. slice_get l (length l - 1) ≡ Some c.in-Some.lowest.now in
    let R : List ℕ → Type 0 = IsStrictlyIncreasing in
    let last : P c.args.self.now = subst P (c.deref.ensures.value ∙ c.self.view_is) (sym c.in-Some.ensures.value) in
    let both = reaches-last c.args.self.now (subst R c.self.view_is c.self.invariant.0) c.args.level c.in-Some.lowest.now last in
    (λ above. both.0 (leb-true c.args.level c.in-Some.lowest.now above), λ some. le-leb c.args.level c.in-Some.lowest.now (both.1 some))
