use Rattle.std.specs.Prelude.{◌≡◌, ◌<◌, ◌↔◌, ◌||◌, ℕ, Bool, true, false, not, List, length, slice_index_or, nat_eq, count_by, IsTrue}
use Rattle.std.specs.List.{list_any}

-- A set of signals is a list of marks, one for each signal.

abbrev pub is_marked : List Bool → ℕ → Bool
is_marked set signal = slice_index_or set signal false

-- the marked signals are those of which the fact holds
abbrev pub IsSetOf : List Bool → (ℕ → Type 0) → Type 0
IsSetOf set P = (signal : ℕ) → IsTrue (is_marked set signal) ↔ P signal

-- these signals are added to a set
pub record Adds (old : List Bool) (signals : List ℕ) (new : List Bool) : Type 0 where
  pub len : length new ≡ length old
  pub marks : (signal : ℕ) → is_marked new signal ≡ (is_marked old signal || list_any (nat_eq signal) signals)

-- how many signals have no mark
abbrev pub count_left : List Bool → ℕ
count_left set = count_by not set

-- the set has grown, or it is the same
abbrev pub GrowsIf : Bool → List Bool → List Bool → Type 0
GrowsIf true old new = count_left new < count_left old
GrowsIf false old new = new ≡ old
