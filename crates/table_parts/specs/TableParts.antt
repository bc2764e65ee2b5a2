-- Tables as sets of bits.
use Rattle.std.specs.Prelude.{◌<◌, ◌&&◌, ℕ, Bool, List, length, map, MatchOption, All}
use Rattle.std.specs.List.{AllZip}
use Rattle.node_table.specs.Table.{Bits}
use Rattle.mv_encoding.specs.Layouts.{Layout}
use Rattle.mv_encoding.specs.Spots.{spots_at, spelled, spell_values}
use Rattle.net_model.specs.Words.{Scope}
use Rattle.net_model.specs.Nets.{Table}
use Rattle.net_model.specs.Tables.{table_holds}
use Rattle.net_model.specs.Conditions.{columns_of}
use Rattle.net_model.specs.Spellings.{domain_at}
use Rattle.net_model.specs.SoundNets.{IsRowOf, IsOutputEntry}

-- how many values each of these signals has
abbrev pub sizes_in : Scope → List ℕ → List ℕ
sizes_in names signals = map (λ signal. length (domain_at names signal)) signals

-- a table over signals with these names, whose rows and default have an entry for each column
pub record IsTableOver (names : Scope) (table : Table) : Type 0 where
  pub known : All (λ signal. signal < length names) (columns_of table)
  pub rows : All (IsRowOf (sizes_in names table.ins) (sizes_in names table.outs)) table.rows
  pub otherwise : MatchOption table.otherwise (Unit {0}) (AllZip (IsOutputEntry (sizes_in names table.ins)) (sizes_in names table.outs))

-- each column spells a value, and the table holds
abbrev pub part_value : List Layout → Table → Bits → Bool
part_value signals table bits = spell_values (spots_at signals (columns_of table)) bits && table_holds (spelled signals bits) table
