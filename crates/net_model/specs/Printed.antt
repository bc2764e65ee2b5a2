use Rattle.std.specs.Prelude.{◌≡◌, ◌≢◌, ◌<◌, ◌≤◌, ◌+◌, ◌^◌, ◌==◌, IsTrue, ℕ, Bool, List, [], ◌∷◌, ◌++◌, length, map, if◌then◌else◌, slice_index_or, codes, decimal}
use Rattle.std.specs.List.{AllByRecursion, flat_map, join_with_byte, range_with_len}
use Rattle.name_table.specs.Variables.{names_of, are_different}
use Rattle.net_model.specs.Words.{Variable, Scope}
use Rattle.net_model.specs.Listings.{Row, Listing}
use Rattle.net_model.specs.Written.{IsTextVariable}

-- The text of a printed automaton, as lines of fields. A line's fields have single blanks between them, and each line
-- ends with a line feed.

-- the name of state k
abbrev pub state_name : ℕ → List ℕ
state_name k = codes "s" ++ decimal k

-- the name of a value
abbrev pub value_name : Variable → ℕ → List ℕ
value_name v value = slice_index_or v.values value []

-- the one value, or the values as a list in parentheses
abbrev pub values_field : Variable → List ℕ → List ℕ
values_field v [] = []
values_field v (value ∷ []) = value_name v value
values_field v (value ∷ more ∷ values) =
    codes "(" ++ (join_with_byte 44 (map (value_name v) (value ∷ more ∷ values)) ++ codes ")")

-- an entry: `-` where it allows every value of its variable, else the values that it allows
abbrev pub entry_field : Variable → List ℕ → List ℕ
entry_field v entry = if length entry == length v.values then codes "-" else values_field v entry

abbrev pub entry_fields : Scope → List (List ℕ) → List (List ℕ)
entry_fields (v ∷ vars) (entry ∷ entries) = entry_field v entry ∷ entry_fields vars entries
entry_fields [] entries = []
entry_fields (v ∷ vars) [] = []

abbrev pub domain_line : Variable → List (List ℕ)
domain_line v = codes ".mv" ∷ v.name ∷ decimal (length v.values) ∷ v.values

abbrev pub states_line : ℕ → List (List ℕ)
states_line n = codes ".mv" ∷ codes "CS,NS" ∷ decimal n ∷ map state_name (range_with_len 0 n)

abbrev pub mark_field : Bool → List ℕ
mark_field mark = if mark then codes "1" else codes "0"

-- for each state whether it accepts, the first of them state k
abbrev pub mark_lines : ℕ → List Bool → List (List (List ℕ))
mark_lines k [] = []
mark_lines k (mark ∷ marks) = (state_name k ∷ mark_field mark ∷ []) ∷ mark_lines (k + 1) marks

abbrev pub row_line : Scope → Row → List (List ℕ)
row_line vars row = entry_fields vars row.entries ++ (state_name row.present ∷ state_name row.next ∷ [])

abbrev pub printed_lines : List ℕ → Listing → List (List (List ℕ))
printed_lines name auto =
    (codes ".model" ∷ name ∷ [])
    ∷ (codes ".inputs" ∷ names_of auto.vars)
    ∷ (codes ".outputs" ∷ codes "Acc" ∷ [])
    ∷ (map domain_line auto.vars
    ++ (states_line (length auto.accepting)
    ∷ (codes ".latch" ∷ codes "NS" ∷ codes "CS" ∷ [])
    ∷ (codes ".reset" ∷ codes "CS" ∷ [])
    ∷ (codes "s0" ∷ [])
    ∷ (codes ".table" ∷ codes "CS" ∷ codes "->" ∷ codes "Acc" ∷ [])
    ∷ (mark_lines 0 auto.accepting
    ++ ((codes ".table" ∷ (names_of auto.vars ++ (codes "CS" ∷ codes "->" ∷ codes "NS" ∷ [])))
    ∷ (map (row_line auto.vars) auto.rows ++ ((codes ".end" ∷ []) ∷ []))))))

abbrev pub line_bytes : List (List ℕ) → List ℕ
line_bytes fields = join_with_byte 32 fields ++ 10 ∷ []

-- the text of an automaton under a model name
abbrev pub printed_text : List ℕ → Listing → List ℕ
printed_text name auto = flat_map line_bytes (printed_lines name auto)

-- a variable of a printed text: a name that the format doesn't use itself, and values
pub record IsPrintedVariable (v : Variable) : Type 0 where
  pub text : IsTextVariable v
  pub few : length v.values < 2 ^ 64
  pub not_present : v.name ≢ codes "CS"
  pub not_next : v.name ≢ codes "NS"
  pub not_accepting : v.name ≢ codes "Acc"

-- numbers from low on, below high, each greater than the one before
abbrev pub RisesBelow : ℕ → ℕ → List ℕ → Type 0
RisesBelow low high [] = Unit {0}
RisesBelow low high (k ∷ ks) = (low ≤ k) × (k < high) × RisesBelow (k + 1) high ks

-- the values that an entry allows, in order and at least one
abbrev pub IsEntry : Variable → List ℕ → Type 0
IsEntry v entry = (0 < length entry) × RisesBelow 0 (length v.values) entry

-- one entry for each variable
abbrev pub AreEntries : Scope → List (List ℕ) → Type 0
AreEntries [] [] = Unit {0}
AreEntries [] (entry ∷ entries) = ⊥
AreEntries (v ∷ vars) [] = ⊥
AreEntries (v ∷ vars) (entry ∷ entries) = IsEntry v entry × AreEntries vars entries

-- a row over these variables, of an automaton with n states
pub record IsPrintedRow (vars : Scope) (n : ℕ) (row : Row) : Type 0 where
  pub entries : AreEntries vars row.entries
  pub present : row.present < n
  pub next : row.next < n

-- an automaton that has a printed text
pub record IsPrintable (auto : Listing) : Type 0 where
  pub vars : AllByRecursion IsPrintedVariable auto.vars
  pub different : IsTrue (are_different (names_of auto.vars))
  pub states : 0 < length auto.accepting
  pub few : length auto.accepting < 2 ^ 64
  pub initial : auto.initial ≡ 0 ∷ []
  pub rows : AllByRecursion (IsPrintedRow auto.vars (length auto.accepting)) auto.rows
