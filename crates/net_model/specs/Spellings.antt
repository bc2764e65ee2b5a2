use Rattle.std.specs.Prelude.{ℕ, zero, suc, ◌==◌, Bool, true, false, List, [], ◌∷◌, length, drop, Option, Some, None, if◌then◌else◌, codes, position, slice_index, nat_eq}
use Rattle.std.specs.Str.{bytes_eq}
use Rattle.std.specs.Option.{option_map}
use Rattle.name_table.specs.Variables.{names_of, place_of}
use Rattle.name_table.specs.ScopeVars.{variable_at}
use Rattle.net_model.specs.Words.{Scope}
use Rattle.net_model.specs.Forms.{Name, is_comma, is_opening, is_closing, begins_with}
use Rattle.net_model.specs.Nets.{Entry, Any, Value, OneOf, NotOneOf, Equal, Row}

-- The entries of rows and defaults, as words spell them.

-- an entry as it is spelled: `-`, a value's name, a list of them in parentheses, one of these behind `!`, or `=` and a
-- signal's name
pub data Spelled : Type 0 where
  Dash : Spelled
  One : Name → Spelled
  Listed : List Name → Spelled
  NotThis : Name → Spelled
  NotListed : List Name → Spelled
  Same : Name → Spelled

-- something at the front of words, and the words behind it
pub record Taken (T : Type 0) : Type 0 where
  pub taken : T
  pub rest : List Name

abbrev pub taken_of : {T : Type 0} → T → List Name → Option (Taken T)
taken_of thing words = Some (record { taken = thing; rest = words })

-- what is taken is taken for something else
abbrev pub as_taken : {T U : Type 0} → (T → U) → Option (Taken T) → Option (Taken U)
as_taken f None = None
as_taken f (Some had) = Some (record { taken = f had.taken; rest = had.rest })

abbrev pub is_denial : Name → Bool
is_denial word = bytes_eq word (codes "!")

-- a word that can't stand for a value in a list
abbrev pub is_list_sign : Name → Bool
is_list_sign word = if is_comma word then true else (if is_opening word then true else (if is_closing word then true else is_denial word))

-- behind an opening parenthesis: names with commas between them, at least one, up to the closing parenthesis
abbrev pub list_at : List Name → Option (Taken (List Name))
list_at [] = None
list_at (name ∷ []) = None
list_at (name ∷ sign ∷ words) =
    if is_list_sign name then None
    else (if is_closing sign then taken_of (name ∷ []) words
    else (if is_comma sign then as_taken (λ names. name ∷ names) (list_at words) else None))

-- behind the word `!`: a list
abbrev pub denied_list_at : List Name → Option (Taken Spelled)
denied_list_at [] = None
denied_list_at (word ∷ words) = if is_opening word then as_taken NotListed (list_at words) else None

-- an entry of one word
abbrev pub word_entry : Name → Spelled
word_entry word =
    if bytes_eq word (codes "-") then Dash
    else (if begins_with 33 word then NotThis (drop 1 word)
    else (if begins_with 61 word then Same (drop 1 word) else One word))

-- the first entry that the words spell
abbrev pub entry_at : List Name → Option (Taken Spelled)
entry_at [] = None
entry_at (word ∷ words) =
    if is_opening word then as_taken Listed (list_at words)
    else (if is_denial word then denied_list_at words
    else (if is_closing word then None
    else (if is_comma word then None else taken_of (word_entry word) words)))

-- the words spell so many entries
abbrev pub spells_rest : (List Name → Bool) → Option (Taken Spelled) → Bool
spells_rest test None = false
spells_rest test (Some had) = test had.rest

abbrev pub spells : ℕ → List Name → Bool
spells zero words = length words == 0
spells (suc n) words = spells_rest (spells n) (entry_at words)

-- the values of these names in a domain, where it has them all
abbrev pub with_value : Option ℕ → Option (List ℕ) → Option (List ℕ)
with_value None values = None
with_value (Some value) values = option_map (λ vs. value ∷ vs) values

abbrev pub values_of : List Name → List Name → Option (List ℕ)
values_of domain [] = Some []
values_of domain (name ∷ names) = with_value (place_of domain name) (values_of domain names)

-- the entry in an input column with this domain
abbrev pub input_entry : List Name → Spelled → Option Entry
input_entry domain Dash = Some Any
input_entry domain (One name) = option_map Value (place_of domain name)
input_entry domain (Listed names) = option_map OneOf (values_of domain names)
input_entry domain (NotThis name) = option_map (λ value. NotOneOf (value ∷ [])) (place_of domain name)
input_entry domain (NotListed names) = option_map NotOneOf (values_of domain names)
input_entry domain (Same name) = None

-- the domain of the signal at a place
abbrev pub domain_at : Scope → ℕ → List Name
domain_at vars k = (variable_at vars k).values

-- the value of an input column of the table, where it has as many values
abbrev pub equal_to : Scope → List ℕ → List Name → Option ℕ → Option Entry
equal_to vars ins domain None = None
equal_to vars ins domain (Some column) =
    if length (domain_at vars (slice_index ins column)) == length domain then Some (Equal column) else None

-- the first input column that this signal is
abbrev pub column_of : List ℕ → Option ℕ → Option ℕ
column_of ins None = None
column_of ins (Some signal) = position (nat_eq signal) ins

-- the entry in an output column or a default with this domain, of a table with these inputs
abbrev pub output_entry : Scope → List ℕ → List Name → Spelled → Option Entry
output_entry vars ins domain Dash = input_entry domain Dash
output_entry vars ins domain (One name) = input_entry domain (One name)
output_entry vars ins domain (Listed names) = input_entry domain (Listed names)
output_entry vars ins domain (NotThis name) = input_entry domain (NotThis name)
output_entry vars ins domain (NotListed names) = input_entry domain (NotListed names)
output_entry vars ins domain (Same name) = equal_to vars ins domain (column_of ins (place_of (names_of vars) name))

-- an entry before others
abbrev pub with_entry : Option Entry → Option (Taken (List Entry)) → Option (Taken (List Entry))
with_entry None more = None
with_entry (Some entry) more = as_taken (λ entries. entry ∷ entries) more

-- the entry of one column, and then those of further columns
abbrev pub column_then : (Spelled → Option Entry) → (List Name → Option (Taken (List Entry))) → Option (Taken Spelled) → Option (Taken (List Entry))
column_then resolve more None = None
column_then resolve more (Some had) = with_entry (resolve had.taken) (more had.rest)

-- the entries of these columns, as the words spell them, where `resolve` gives the entry in a column
abbrev pub entries_at : (ℕ → Spelled → Option Entry) → List ℕ → List Name → Option (Taken (List Entry))
entries_at resolve [] words = taken_of [] words
entries_at resolve (column ∷ columns) words = column_then (resolve column) (entries_at resolve columns) (entry_at words)

abbrev pub inputs_at : Scope → List ℕ → List Name → Option (Taken (List Entry))
inputs_at vars ins words = entries_at (λ column. input_entry (domain_at vars column)) ins words

abbrev pub outputs_at : Scope → List ℕ → List ℕ → List Name → Option (Taken (List Entry))
outputs_at vars ins outs words = entries_at (λ column. output_entry vars ins (domain_at vars column)) outs words

-- nothing is left behind what was taken
abbrev pub whole : {T : Type 0} → Option (Taken T) → Option T
whole None = None
whole (Some had) = if length had.rest == 0 then Some had.taken else None

abbrev pub row_behind : Scope → List ℕ → List ℕ → Option (Taken (List Entry)) → Option Row
row_behind vars ins outs None = None
row_behind vars ins outs (Some had) =
    option_map (λ entries. record { ins = had.taken; outs = entries }) (whole (outputs_at vars ins outs had.rest))

-- the row that the words spell, under a table with these inputs and outputs
abbrev pub row_spelled : Scope → List ℕ → List ℕ → List Name → Option Row
row_spelled vars ins outs words = row_behind vars ins outs (inputs_at vars ins words)

-- the default that the words spell
abbrev pub default_spelled : Scope → List ℕ → List ℕ → List Name → Option (List Entry)
default_spelled vars ins outs words = whole (outputs_at vars ins outs words)
