-- What is left of a set of bits at some levels.
use Rattle.std.specs.Prelude.{◌≡◌, ◌≤◌, ℕ, Bool, true, false, List}
use Rattle.node_table.specs.Table.{Bits, Table, value_at, IsValid}
use Rattle.bdd_ops.specs.Levels.{is_in, SameAt}

-- the bits agree at these levels, and at those that the Space hasn't
abbrev pub SameKept : Table → List ℕ → Bits → Bits → Type 0
SameKept t keep u v = (k : ℕ) → (is_in keep k ≡ false → t.levels ≤ k) → u k ≡ v k

-- a valid ref with the value 1 exactly where some bits with the same kept ones have the meaning
pub record Projects (t : Table) (r : ℕ) (keep : List ℕ) (meaning : Bits → Bool) : Type 0 where
  pub valid : IsValid t r
  pub found : (bits : Bits) → value_at t r bits ≡ true → (u : Bits) × SameAt keep u bits × (meaning u ≡ true)
  pub holds : (bits u : Bits) → SameKept t keep u bits → meaning u ≡ true → value_at t r bits ≡ true
