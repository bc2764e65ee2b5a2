use Rattle.std.proofs.Common.{◌≡◌, ◌∙◌, sym, subst, List, ℕ}
use Rattle.std.specs.List.Sorted.{IsStrictlyIncreasing}
use Rattle.std.proofs.lemmas.List.Sorted.{searched}
use Rattle.bdd_ops.specs.Levels.{is_in}
use Rattle.bdd_ops.proofs.Members.{searched-is_in, rising}
use Rattle.bdd_ops.proofs.level_set.LevelSet.contains.Goals as goal

pub returns : goal.returns
returns c =
    let levels = c.self.inside.levels.items in
    let P : List ℕ → Type 0 = λ l. c.is_ok.result ≡ is_in l c.args.level in
    let R : List ℕ → Type 0 = IsStrictlyIncreasing in
    let rises : R c.deref.result.now = subst R (sym c.deref.ensures.value) c.self.invariant.0 in
    subst P (c.deref.ensures.value ∙ c.self.view_is)
    (c.is_ok.ensures.value
    ∙ searched-is_in c.deref.result.now rises c.args.level c.binary_search.result
    (searched c.deref.result.now c.args.level c.binary_search.result c.binary_search.ensures.position (rising c.deref.result.now rises)))
