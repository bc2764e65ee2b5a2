-- What is left of a diagram where the bits at its first levels are fixed.
use Rattle.std.specs.Prelude.{◌≡◌, ◌<◌, ◌≤◌, ℕ, true, false, min, List, All}
use Rattle.std.specs.List.{AllPairs, Any}
use Rattle.node_table.specs.Table.{Bits, Table, value_at, top_of, IsValid}

-- the bits agree at the levels above this one
abbrev pub SameAbove : ℕ → Bits → Bits → Type 0
SameAbove level u v = (k : ℕ) → k < level → u k ≡ v k

-- r is what is left of f where the bits above this level are those of u
abbrev pub IsLeft : Table → ℕ → ℕ → Bits → ℕ → Type 0
IsLeft t level f u r = (v : Bits) → SameAbove level u v → value_at t f v ≡ value_at t r v

-- at the first level above this one at which they differ, u has the bit 0 and v the bit 1
pub record IsLess (level : ℕ) (u v : Bits) : Type 0 where
  pub at : ℕ
  pub above : at < level
  pub same : SameAbove at u v
  pub zero : u at ≡ false
  pub one : v at ≡ true

-- The refs are what is left of f by fixing all levels above this one: each once, and one before another where some bits
-- that leave it are less than all bits that leave the other.
pub record IsCut (t : Table) (level f : ℕ) (refs : List ℕ) : Type 0 where
  pub valid : All (IsValid t) refs
  -- none asks for a bit above this level; a constant asks for none at all
  pub below : All (λ r. min level t.levels ≤ top_of t r) refs
  pub different : AllPairs (λ r s. r ≡ s → ⊥) refs
  pub covering : (u : Bits) → Any (IsLeft t level f u) refs
  pub reached : All (λ r. (u : Bits) × IsLeft t level f u r) refs
  pub ordered : AllPairs (λ r s. (v : Bits) → IsLeft t level f v s → (u : Bits) × IsLeft t level f u r × IsLess level u v) refs
