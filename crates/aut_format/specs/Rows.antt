-- The rows of a printed automaton.
use Rattle.std.specs.Prelude.{◌≡◌, ◌≤◌, ◌+◌, ◌^◌, ◌==◌, ◌||◌, ℕ, zero, suc, Bool, true, false, not, IsTrue, List, [], ◌∷◌, ◌++◌, length, map, filter, if◌then◌else◌, nat_lt}
use Rattle.std.specs.Bool.{beq}
use Rattle.std.specs.List.{AllByRecursion, list_all, flat_map}
use Rattle.name_table.specs.CodeBits.{bits_of}
use Rattle.name_table.specs.Variables.{names_of, are_different}
use Rattle.net_model.specs.Words.{Variable, Scope, Letter}
use Rattle.net_model.specs.Listings.{Row, Listing}
use Rattle.net_model.specs.Printed.{IsPrintedVariable}
use Rattle.node_table.specs.Table.{Bits, Table}
use Rattle.bdd_walk.specs.Paths.{Path, paths_of}
use Rattle.mv_encoding.specs.Layouts.{Layout, numbers_of}
use Rattle.det_core.specs.declared.det.Move.{Move}
use Rattle.det_core.specs.Automata.{State}
use Rattle.det_core.specs.Languages.{MovesBy}

-- the path doesn't ask for the other bit at this level
abbrev pub allows_bit : Path → ℕ → Bool → Bool
allows_bit path level bit = list_all (λ literal. not (literal.0 == level) || beq literal.1 bit) path

-- the numbers that so many bits from this level on spell along the path, the least first, each added to `base`
abbrev pub numbers_along : Path → ℕ → ℕ → ℕ → List ℕ
numbers_along path level zero base = base ∷ []
numbers_along path level (suc b) base =
    (if allows_bit path level false then numbers_along path (level + 1) b base else [])
    ++ (if allows_bit path level true then numbers_along path (level + 1) b (base + 2 ^ b) else [])

-- the numbers that are values
abbrev pub values_below : ℕ → List ℕ → List ℕ
values_below count numbers = filter (λ value. nat_lt value count) numbers

-- the values of a variable whose codes, from this level on, have the bits that the path asks for
abbrev pub entry_along : Path → ℕ → Variable → List ℕ
entry_along path level v = values_below (length v.values) (numbers_along path level (bits_of v) 0)

-- the same of each variable, one after another from this level on
abbrev pub entries_along : Path → ℕ → Scope → List (List ℕ)
entries_along path level [] = []
entries_along path level (v ∷ scope) = entry_along path level v ∷ entries_along path (level + bits_of v) scope

-- the row from one state to another along a path
abbrev pub row_along : Layout → ℕ → ℕ → Path → Row
row_along layout present next path =
    record { entries = entries_along path layout.first layout.scope; present = present; next = next }

-- the rows of a move, one for each path of its guard
abbrev pub rows_of_move : Table → Layout → ℕ → Move → List Row
rows_of_move t layout present m = map (row_along layout present m.target) (paths_of t.nodes m.guard)

-- the rows of all moves of a state
abbrev pub rows_of_moves : Table → Layout → ℕ → List Move → List Row
rows_of_moves t layout present moves = flat_map (rows_of_move t layout present) moves

-- the rows of these states, of which the first has the number k
abbrev pub rows_from : Table → Layout → ℕ → List State → List Row
rows_from t layout k [] = []
rows_from t layout k (s ∷ states) = rows_of_moves t layout k s.moves ++ rows_from t layout (k + 1) states

-- A deterministic automaton as a listing: the states in their order, and of each the rows of its moves, in the order of the
-- moves, and of each move in the order of its guard's paths.
abbrev pub listing_of_det : Table → Layout → List State → Listing
listing_of_det t layout det = record {
  vars = layout.scope;
  initial = 0 ∷ [];
  accepting = map (λ s. s.accepting) det;
  rows = rows_from t layout 0 det;
}

-- some bits spell the letter at which a move from one state to the other has its guard
abbrev pub HasStep : Table → Layout → List State → ℕ → Letter → ℕ → Type 0
HasStep t layout det k letter target = (bits : Bits) × (numbers_of layout bits ≡ letter) × MovesBy t det k bits target

-- the variables can stand in a printed text, and no two have one name
pub record HaveTextNames (scope : Scope) : Type 0 where
  pub vars : AllByRecursion IsPrintedVariable scope
  pub different : IsTrue (are_different (names_of scope))

-- the levels of the path rise, from this one on
abbrev pub RisesFrom : ℕ → Path → Type 0
RisesFrom level [] = Unit {0}
RisesFrom level (l ∷ path) = (level ≤ l.0) × RisesFrom (l.0 + 1) path

-- how many literals stand before the first one from this level on
abbrev pub count_before : Path → ℕ → ℕ
count_before [] level = 0
count_before (l ∷ path) level = if nat_lt l.0 level then suc (count_before path level) else 0
