use Rattle.std.proofs.Common.{◌≡◌, ℕ, List, subst}
use Rattle.std.specs.List.{AllPairs}
use Rattle.std.proofs.lemmas.Bool.Decides.{Decides-eqb}
use Rattle.std.proofs.lemmas.Map.Made.{AllPairs-from_IsDistinct}
use Rattle.subset_build.proofs.found.Found.len.Goals as goal

pub returns-clause-different : goal.returns-clause-different
returns-clause-different c =
    let Different : List ℕ → Type 0 = λ sets. AllPairs (λ r s. r ≡ s → ⊥) sets in
    subst Different c.self.view_is (AllPairs-from_IsDistinct Decides-eqb c.self.inside.refs.keys c.len.ensures.unique)
