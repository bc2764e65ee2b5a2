use Rattle.std.specs.Prelude.{ℕ, List, [], ◌∷◌, ◌++◌}
use Rattle.std.specs.List.{flat_map}

-- the fields, each after a blank
abbrev pub blank_before : List (List ℕ) → List ℕ
blank_before fields = flat_map (λ field. 32 ∷ field) fields

-- the fields, each before a blank
abbrev pub blank_after : List (List ℕ) → List ℕ
blank_after fields = flat_map (λ field. field ++ 32 ∷ []) fields

-- the names, each after a comma
abbrev pub comma_before : List (List ℕ) → List ℕ
comma_before names = flat_map (λ name. 44 ∷ name) names
