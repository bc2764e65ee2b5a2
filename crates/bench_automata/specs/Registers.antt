-- Shift registers as relations.
use Rattle.std.specs.Prelude.{◌≡◌, ◌+◌, ◌-◌, ◌*◌, ◌<◌, ◌≤◌, ℕ, zero, suc, Bool, not, nat_lt, if◌then◌else◌, List, [], ◌∷◌, length, slice_index}
use Rattle.node_table.specs.Table.{Bits, Table, value_at, top_of, IsValid}
use Rattle.bdd_ops.specs.Meaning.{StandsFor}

-- the levels of so many latches from the first one on, two each: that of the next bit, and that of the present one above it
abbrev pub latch_levels : ℕ → ℕ → List (ℕ × ℕ)
latch_levels first zero = []
latch_levels first (suc n) = (first + 1, first) ∷ latch_levels (first + 2) n

-- the level of the bit that a latch copies: one of the letter, or the present one of the latch so many places before it
abbrev pub source_of : ℕ → ℕ → ℕ
source_of letters latch = if nat_lt latch letters then latch else 2 * latch - letters

-- whether the bits of two levels are equal
abbrev pub copies : ℕ → ℕ → Bits → Bool
copies from to bits = if bits from then bits to else not (bits to)

-- a part for each latch, which says that its next bit is the one that it copies
pub record AreCopies (t : Table) (letters latches : ℕ) (parts : List ℕ) : Type 0 where
  pub number : length parts ≡ latches
  pub each : (k : ℕ) → k < latches → StandsFor t (slice_index parts k) (copies (source_of letters k) (letters + 2 * k + 1))

-- a node at this level that is 1 where the bit there is this one
pub record IsBit (t : Table) (level : ℕ) (bit : Bool) (r : ℕ) : Type 0 where
  pub valid : IsValid t r
  pub top : level ≤ top_of t r
  pub value : (bits : Bits) → value_at t r bits ≡ (if bit then bits level else not (bits level))
