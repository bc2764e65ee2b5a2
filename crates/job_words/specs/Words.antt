use Rattle.std.specs.Prelude.{ℕ, List, [], ◌∷◌, codes}

-- the words of a job of `solve`, with two file names and two lists
abbrev pub solve_words : List ℕ → List ℕ → List ℕ → List ℕ → List (List ℕ)
solve_words f s ins outs = codes "solve" ∷ f ∷ s ∷ codes "--in" ∷ ins ∷ codes "--out" ∷ outs ∷ []
