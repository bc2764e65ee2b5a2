-- Numbers of different sets.
use Rattle.std.specs.Prelude.{◌≡◌, ◌+◌, ◌<◌, ◌≤◌, ℕ, Bool, true, List, length, slice_index}
use Rattle.node_table.specs.Table.{Bits, Table, top_of, IsValid}
use Rattle.bdd_walk.specs.Cuts.{IsLeft}

-- the list has more behind
pub record Extends (old new : List ℕ) : Type 0 where
  pub longer : length old ≤ length new
  pub same : (k : ℕ) → k < length old → slice_index new k ≡ slice_index old k

-- the set has this number, and is the only one that may have come
pub record IsPlaced (old new : List ℕ) (set place : ℕ) : Type 0 where
  pub extends : Extends old new
  pub few : length new ≤ length old + 1
  pub within : place < length new
  pub is_set : slice_index new place ≡ set
  pub only : (k : ℕ) → length old ≤ k → k < length new → slice_index new k ≡ set

-- a ref is what f leaves at some letter
pub record IsLeftAt (t : Table) (letters : Bits → Bool) (level f set : ℕ) : Type 0 where
  pub valid : IsValid t set
  pub below : level ≤ top_of t set
  pub letter : Bits
  pub is_letter : letters letter ≡ true
  pub left : IsLeft t level f letter set

-- the sets that came are left at letters
abbrev pub AreLeft : Table → (Bits → Bool) → ℕ → ℕ → List ℕ → List ℕ → Type 0
AreLeft t letters level f old new = (k : ℕ) → length old ≤ k → k < length new → IsLeftAt t letters level f (slice_index new k)
