use Rattle.std.specs.Prelude.{ℕ, ◌==◌, Bool, true, false, not, ◌&&◌, ◌||◌, List, [], ◌∷◌, map, Option, Some, None, slice_index}
use Rattle.std.specs.List.{list_any}
use Rattle.net_model.specs.Nets.{Entry, Any, Value, OneOf, NotOneOf, Equal, Row, Table}

-- When a table holds. A valuation gives a value to each signal, by its place.

abbrev pub is_value_of : List ℕ → ℕ → Bool
is_value_of values value = list_any (λ v. v == value) values

-- the entry allows this value, in a table whose input columns have these values
abbrev pub entry_allows : List ℕ → Entry → ℕ → Bool
entry_allows ins Any value = true
entry_allows ins (Value v) value = v == value
entry_allows ins (OneOf values) value = is_value_of values value
entry_allows ins (NotOneOf values) value = not (is_value_of values value)
entry_allows ins (Equal column) value = slice_index ins column == value

abbrev pub entries_allow : List ℕ → List Entry → List ℕ → Bool
entries_allow ins [] [] = true
entries_allow ins [] (value ∷ values) = false
entries_allow ins (entry ∷ entries) [] = false
entries_allow ins (entry ∷ entries) (value ∷ values) = entry_allows ins entry value && entries_allow ins entries values

-- the row's input entries allow the input values
abbrev pub row_matches : List ℕ → Row → Bool
row_matches ins row = entries_allow ins row.ins ins

abbrev pub row_allows : List ℕ → List ℕ → Row → Bool
row_allows ins outs row = row_matches ins row && entries_allow ins row.outs outs

abbrev pub default_allows : List ℕ → List ℕ → Option (List Entry) → Bool
default_allows ins outs None = false
default_allows ins outs (Some entries) = entries_allow ins entries outs

-- some row matches the inputs and allows the outputs, or no row matches and the default allows them
abbrev pub table_allows : Table → List ℕ → List ℕ → Bool
table_allows table ins outs =
    list_any (row_allows ins outs) table.rows
    || (not (list_any (row_matches ins) table.rows) && default_allows ins outs table.otherwise)

-- the values of these signals
abbrev pub values_at : List ℕ → List ℕ → List ℕ
values_at valuation signals = map (slice_index valuation) signals

abbrev pub table_holds : List ℕ → Table → Bool
table_holds valuation table = table_allows table (values_at valuation table.ins) (values_at valuation table.outs)
