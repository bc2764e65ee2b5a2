-- The least bits at which a diagram has the value 1.
use Rattle.std.specs.Prelude.{◌≡◌, ◌==◌, ◌<◌, ◌≤◌, ◌⊎◌, ℕ, suc, Bool, true, false, if◌then◌else◌, List, [], ◌∷◌, length}
use Rattle.node_table.specs.Table.{Bits, Table, value_at}
use Rattle.bdd_ops.specs.Levels.{is_in, SameAt}
use Rattle.bdd_ops.specs.Words.{bit_of}

-- the bits of a code at these levels: bit k at the level at place k, and 0 at all other levels
abbrev pub spread : List ℕ → (ℕ → Bool) → Bits
spread [] code level = false
spread (first ∷ levels) code level = if level == first then code 0 else spread levels (λ k. code (suc k)) level

-- at the first of these levels at which they differ, u has the bit 0 and v the bit 1; or they don't differ there
pub record IsFirstDifference (levels : List ℕ) (u v : Bits) (level : ℕ) : Type 0 where
  pub of_these : is_in levels level ≡ true
  pub same : (k : ℕ) → is_in levels k ≡ true → k < level → u k ≡ v k
  pub zero : u level ≡ false
  pub one : v level ≡ true

abbrev pub IsAtMost : List ℕ → Bits → Bits → Type 0
IsAtMost levels u v = SameAt levels u v ⊎ ((level : ℕ) × IsFirstDifference levels u v level)

-- the code, given by its words, is that of the least bits at these levels at which the ref has the value 1
pub record IsLeast (t : Table) (r : ℕ) (levels words : List ℕ) : Type 0 where
  pub one : value_at t r (spread levels (bit_of words)) ≡ true
  pub least : (v : Bits) → value_at t r v ≡ true → IsAtMost levels (spread levels (bit_of words)) v
  pub rest : (k : ℕ) → length levels ≤ k → bit_of words k ≡ false
