-- Columns of a table, as the code holds them.
use Rattle.std.specs.Prelude.{◌<◌, ℕ, List, length, map, All}
use Rattle.name_table.specs.declared.names.VarId.{VarId}
use Rattle.node_table.specs.Table.{Bits}
use Rattle.mv_encoding.specs.Layouts.{Layout}
use Rattle.mv_encoding.specs.Spots.{variables_at, spelled}
use Rattle.net_model.specs.Tables.{values_at}
use Rattle.table_parts.specs.TableParts.{sizes_in}

-- the signals of these columns
abbrev pub signals_of : List VarId → List ℕ
signals_of columns = map (λ v. v.0) columns

-- each column is a signal that has a spot
abbrev pub AreKnown : List Layout → List VarId → Type 0
AreKnown signals columns = All (λ v. v.0 < length signals) columns

-- how many values each column has
abbrev pub sizes_at : List Layout → List VarId → List ℕ
sizes_at signals columns = sizes_in (variables_at signals) (signals_of columns)

-- the number that the bits spell in each column
abbrev pub numbers_in : List Layout → List VarId → Bits → List ℕ
numbers_in signals columns bits = values_at (spelled signals bits) (signals_of columns)
