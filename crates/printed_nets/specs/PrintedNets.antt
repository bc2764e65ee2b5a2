use Rattle.std.specs.Prelude.{◌+◌, ◌==◌, ℕ, Bool, List, [], ◌∷◌, ◌++◌, length, map, None, if◌then◌else◌, codes, decimal}
use Rattle.std.specs.List.{range_with_len}
use Rattle.name_table.specs.Variables.{names_of, numbers}
use Rattle.net_model.specs.Words.{Variable, Scope}
use Rattle.net_model.specs.Listings as listings
use Rattle.net_model.specs.Listings.{Listing}
use Rattle.net_model.specs.Nets.{Entry, Any, Value, OneOf, Row, Table, Net}
use Rattle.net_model.specs.Forms.{Name, Form, ModelLine, InputsLine, OutputsLine, DomainsLine, TableLine, ResetLine, LatchLine, EndLine, RowLine}
use Rattle.net_model.specs.Printed.{state_name, value_name, mark_field}

-- The network that the printed text of an automaton stands for, and what its lines say.

-- whether a state accepts
abbrev pub acc_variable : Variable
acc_variable = record { name = codes "Acc"; values = numbers 2 }

-- the names of n states
abbrev pub state_names : ℕ → List Name
state_names n = map state_name (range_with_len 0 n)

-- the present or the next one of n states
abbrev pub state_variable : Name → ℕ → Variable
state_variable name n = record { name = name; values = state_names n }

-- the variables of the letters, then `Acc`, the present and the next state
abbrev pub printed_names : Listing → Scope
printed_names auto =
    auto.vars ++ (acc_variable ∷ state_variable (codes "CS") (length auto.accepting) ∷ state_variable (codes "NS") (length auto.accepting) ∷ [])

abbrev pub letter_places : Listing → List ℕ
letter_places auto = range_with_len 0 (length auto.vars)

abbrev pub acc_place : Listing → ℕ
acc_place auto = length auto.vars

abbrev pub present_place : Listing → ℕ
present_place auto = length auto.vars + 1

abbrev pub next_place : Listing → ℕ
next_place auto = length auto.vars + 2

-- an entry, by the values that it allows
abbrev pub values_entry : List ℕ → Entry
values_entry [] = OneOf []
values_entry (value ∷ []) = Value value
values_entry (value ∷ more ∷ values) = OneOf (value ∷ more ∷ values)

abbrev pub net_entry : Variable → List ℕ → Entry
net_entry v entry = if length entry == length v.values then Any else values_entry entry

abbrev pub net_entries : Scope → List (List ℕ) → List Entry
net_entries (v ∷ vars) (entry ∷ entries) = net_entry v entry ∷ net_entries vars entries
net_entries [] entries = []
net_entries (v ∷ vars) [] = []

abbrev pub net_row : Scope → listings.Row → Row
net_row vars row = record { ins = net_entries vars row.entries ++ Value row.present ∷ []; outs = Value row.next ∷ [] }

abbrev pub mark_value : Bool → ℕ
mark_value mark = if mark then 1 else 0

abbrev pub mark_row : ℕ → Bool → Row
mark_row k mark = record { ins = Value k ∷ []; outs = Value (mark_value mark) ∷ [] }

-- for each state whether it accepts, the first of them state k
abbrev pub mark_rows : ℕ → List Bool → List Row
mark_rows k [] = []
mark_rows k (mark ∷ marks) = mark_row k mark ∷ mark_rows (k + 1) marks

abbrev pub acc_table : Listing → Table
acc_table auto = record { ins = present_place auto ∷ []; outs = acc_place auto ∷ []; rows = mark_rows 0 auto.accepting; otherwise = None }

abbrev pub step_table : Listing → Table
step_table auto = record {
  ins = letter_places auto ++ present_place auto ∷ [];
  outs = next_place auto ∷ [];
  rows = map (net_row auto.vars) auto.rows;
  otherwise = None;
}

abbrev pub reset_table : Listing → Table
reset_table auto = record { ins = []; outs = present_place auto ∷ []; rows = record { ins = []; outs = Value 0 ∷ [] } ∷ []; otherwise = None }

abbrev pub printed_net : Listing → Net
printed_net auto = record {
  names = printed_names auto;
  inputs = letter_places auto;
  outputs = acc_place auto ∷ [];
  tables = acc_table auto ∷ step_table auto ∷ [];
  latches = record { input = next_place auto; output = present_place auto } ∷ [];
  resets = reset_table auto ∷ [];
}

-- what the lines say

-- names with commas between them
abbrev pub listed_words : List Name → List Name
listed_words [] = []
listed_words (name ∷ []) = name ∷ []
listed_words (name ∷ more ∷ names) = name ∷ codes "," ∷ listed_words (more ∷ names)

abbrev pub values_words : Variable → List ℕ → List Name
values_words v [] = []
values_words v (value ∷ []) = value_name v value ∷ []
values_words v (value ∷ more ∷ values) = codes "(" ∷ (listed_words (map (value_name v) (value ∷ more ∷ values)) ++ codes ")" ∷ [])

abbrev pub entry_words : Variable → List ℕ → List Name
entry_words v entry = if length entry == length v.values then codes "-" ∷ [] else values_words v entry

abbrev pub entries_words : Scope → List (List ℕ) → List Name
entries_words (v ∷ vars) (entry ∷ entries) = entry_words v entry ++ entries_words vars entries
entries_words [] entries = []
entries_words (v ∷ vars) [] = []

abbrev pub domain_form : Variable → Form
domain_form v = DomainsLine (v.name ∷ []) (decimal (length v.values)) v.values

abbrev pub mark_form : ℕ → Bool → Form
mark_form k mark = RowLine (state_name k ∷ mark_field mark ∷ [])

abbrev pub mark_forms : ℕ → List Bool → List Form
mark_forms k [] = []
mark_forms k (mark ∷ marks) = mark_form k mark ∷ mark_forms (k + 1) marks

abbrev pub row_form : Scope → listings.Row → Form
row_form vars row = RowLine (entries_words vars row.entries ++ (state_name row.present ∷ state_name row.next ∷ []))

-- the lines from the table of steps on
abbrev pub step_forms : Listing → List Form
step_forms auto =
    TableLine (names_of auto.vars ++ codes "CS" ∷ []) (codes "NS" ∷ []) ∷ (map (row_form auto.vars) auto.rows ++ EndLine ∷ [])

-- the lines from the table of accepting states on
abbrev pub table_forms : Listing → List Form
table_forms auto =
    TableLine (codes "CS" ∷ []) (codes "Acc" ∷ []) ∷ (mark_forms 0 auto.accepting ++ step_forms auto)

-- the lines from the domain of the states on
abbrev pub state_forms : Listing → List Form
state_forms auto =
    DomainsLine (codes "CS" ∷ codes "NS" ∷ []) (decimal (length auto.accepting)) (state_names (length auto.accepting))
    ∷ LatchLine (codes "NS") (codes "CS")
    ∷ ResetLine [] (codes "CS" ∷ [])
    ∷ RowLine (codes "s0" ∷ [])
    ∷ table_forms auto

abbrev pub printed_forms : Name → Listing → List Form
printed_forms name auto =
    ModelLine (name ∷ [])
    ∷ InputsLine (names_of auto.vars)
    ∷ OutputsLine (codes "Acc" ∷ [])
    ∷ (map domain_form auto.vars ++ state_forms auto)
