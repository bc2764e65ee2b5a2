-- A diagram by what it leaves where the bits at its first levels are fixed, with the bits that leave it.
use Rattle.std.specs.Prelude.{◌≡◌, ◌≤◌, ℕ, true, List, All}
use Rattle.std.specs.List.{list_any, AllPairs}
use Rattle.node_table.specs.Table.{Bits, Table, value_at, top_of, IsValid}
use Rattle.bdd_walk.specs.Cuts.{SameAbove, IsLeft}
use Rattle.bdd_walk.specs.declared.splits.Piece.{Piece}

-- the value of the ref depends on the bits above this level alone
abbrev pub AsksAbove : Table → ℕ → ℕ → Type 0
AsksAbove t level r = (u v : Bits) → SameAbove level u v → value_at t r u ≡ value_at t r v

-- The pieces are what f leaves where the bits above the level are fixed to some of `within`, each once and with all the bits
-- of `within` that leave it.
pub record IsSplit (t : Table) (level f within : ℕ) (pieces : List Piece) : Type 0 where
  pub left_valid : All (λ p. IsValid t p.left) pieces
  pub at_valid : All (λ p. IsValid t p.at) pieces
  -- none of what is left asks for a bit above this level
  pub below : All (λ p. level ≤ top_of t p.left) pieces
  pub some : All (λ p. p.at ≡ 0 → ⊥) pieces
  pub inside : All (λ p. (u : Bits) → value_at t p.at u ≡ true → value_at t within u ≡ true) pieces
  pub leaves : All (λ p. (u : Bits) → value_at t p.at u ≡ true → IsLeft t level f u p.left) pieces
  pub whole : All (λ p. (u : Bits) → value_at t within u ≡ true → IsLeft t level f u p.left → value_at t p.at u ≡ true) pieces
  pub covering : (u : Bits) → value_at t within u ≡ true → list_any (λ p. value_at t p.at u) pieces ≡ true
  pub different : AllPairs (λ p q. p.left ≡ q.left → ⊥) pieces
  pub disjoint : AllPairs (λ p q. (u : Bits) → value_at t p.at u ≡ true → value_at t q.at u ≡ true → ⊥) pieces
