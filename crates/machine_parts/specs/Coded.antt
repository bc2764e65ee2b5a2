-- Codes of the columns and the states of a machine, as the code works on them.
use Rattle.std.specs.Prelude.{◌≡◌, ◌<◌, ◌++◌, ℕ, List, length, All}
use Rattle.name_table.specs.ScopeVars.{variable_at}
use Rattle.node_table.specs.Table.{Table}
use Rattle.mv_encoding.specs.Layouts.{Layout, IsLaid}
use Rattle.mv_encoding.specs.Spots.{AreLaid}
use Rattle.net_model.specs.Machines.{KissRow, IsKnownState}

-- how many values a code has, which is one of a variable
abbrev pub size_of : Layout → ℕ
size_of code = length (variable_at code.scope 0).values

-- the code of a variable of two values
pub record IsBinary (column : Layout) : Type 0 where
  pub some : 0 < length column.scope
  pub values : size_of column ≡ 2

-- the columns are binary, the two states have a code, and the levels of all of them are there
pub record AreCoded (t : Table) (columns : List Layout) (present next : Layout) : Type 0 where
  pub binary : All IsBinary columns
  pub laid : AreLaid t columns
  pub present_some : 0 < length present.scope
  pub next_some : 0 < length next.scope
  pub present_laid : IsLaid present t
  pub next_laid : IsLaid next t

-- a row with a character for each column and with states that have a value
pub record IsRowOver (columns : List Layout) (present next : Layout) (row : KissRow) : Type 0 where
  pub width : length (row.input ++ row.output) ≡ length columns
  pub present_known : IsKnownState (size_of present) row.present
  pub next_known : IsKnownState (size_of next) row.next
