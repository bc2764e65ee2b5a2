use Rattle.std.specs.Prelude.{◌≡◌, ◌<◌, ◌≤◌, ℕ, List, [], ◌∷◌, length, map, MatchOption, slice_index, nat_eq, count_by, All}
use Rattle.std.specs.List.{AllByRecursion, AllZip}
use Rattle.name_table.specs.Variables.{IsTable}
use Rattle.net_model.specs.Nets.{Entry, Any, Value, OneOf, NotOneOf, Equal, Row, Table, Net}
use Rattle.net_model.specs.Spellings.{domain_at}
use Rattle.net_model.specs.Conditions.{columns_of, MeetsConditions}
use Rattle.net_model.specs.Written.{IsTextVariable}

-- What holds of every network that is read.

-- an entry of an input column with so many values
abbrev pub IsInputEntry : ℕ → Entry → Type 0
IsInputEntry size Any = Unit {0}
IsInputEntry size (Value value) = value < size
IsInputEntry size (OneOf values) = All (λ value. value < size) values
IsInputEntry size (NotOneOf values) = All (λ value. value < size) values
IsInputEntry size (Equal column) = ⊥

-- an entry of an output column with so many values, in a table whose input columns have these numbers of values
abbrev pub IsOutputEntry : List ℕ → ℕ → Entry → Type 0
IsOutputEntry ins size Any = Unit {0}
IsOutputEntry ins size (Value value) = value < size
IsOutputEntry ins size (OneOf values) = All (λ value. value < size) values
IsOutputEntry ins size (NotOneOf values) = All (λ value. value < size) values
IsOutputEntry ins size (Equal column) = (column < length ins) × (slice_index ins column ≡ size)

-- each of these signals has a name
abbrev pub AreKnown : Net → List ℕ → Type 0
AreKnown net signals = All (λ signal. signal < length net.names) signals

-- each signal of the network has a name
pub record HasKnownSignals (net : Net) : Type 0 where
  pub names : IsTable net.names
  pub inputs : AreKnown net net.inputs
  pub outputs : AreKnown net net.outputs
  pub tables : All (λ table. AreKnown net (columns_of table)) net.tables
  pub latches : All (λ latch. AreKnown net (latch.input ∷ latch.output ∷ [])) net.latches
  pub resets : All (λ table. AreKnown net (columns_of table)) net.resets

-- how many values each of these signals has
abbrev pub sizes_of : Net → List ℕ → List ℕ
sizes_of net signals = map (λ signal. length (domain_at net.names signal)) signals

-- an entry for each column
pub record IsRowOf (ins outs : List ℕ) (row : Row) : Type 0 where
  pub inputs : AllZip IsInputEntry ins row.ins
  pub outputs : AllZip (IsOutputEntry ins) outs row.outs

-- a table whose rows and default have an entry for each column
pub record IsTableOf (net : Net) (table : Table) : Type 0 where
  pub rows : All (IsRowOf (sizes_of net table.ins) (sizes_of net table.outs)) table.rows
  pub otherwise : MatchOption table.otherwise (Unit {0}) (AllZip (IsOutputEntry (sizes_of net table.ins)) (sizes_of net table.outs))

-- all numbers are in range, the names are words of a text, an output counts once, each row and default has an entry for
-- each column, and the conditions on signals hold
pub record IsSound (net : Net) : Type 0 where
  pub known : HasKnownSignals net
  pub names : AllByRecursion IsTextVariable net.names
  pub outputs_once : (signal : ℕ) → count_by (nat_eq signal) net.outputs ≤ 1
  pub tables : All (IsTableOf net) net.tables
  pub resets : All (IsTableOf net) net.resets
  pub conditions : MeetsConditions net
