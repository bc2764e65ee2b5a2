-- Letters over two variables.
use Rattle.std.proofs.Common.{◌≡◌, ◌<◌, ℕ, [], ◌∷◌, length, arith}
use Rattle.name_table.specs.ScopeVars.{variable_at}
use Rattle.net_model.specs.Words.{Scope, IsLetter}

pub pair_is_letter : (scope : Scope) (a b : ℕ) → length scope ≡ 2 → a < length (variable_at scope 0).values → b < length (variable_at scope 1).values → IsLetter scope (a ∷ b ∷ [])
pair_is_letter [] a b two first second = absurd (omega (arith, two))
pair_is_letter (v ∷ []) a b two first second = absurd (omega (arith, two))
pair_is_letter (v ∷ w ∷ []) a b two first second = (first, (second, tt))
pair_is_letter (v ∷ w ∷ u ∷ scope) a b two first second = absurd (omega (arith, two))
