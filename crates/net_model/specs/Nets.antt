use Rattle.std.specs.Prelude.{ℕ, List, map, Option}
use Rattle.std.specs.Option.{option_map}
use Rattle.net_model.specs.Words.{Scope}
use Rattle.net_model.specs.declared.net.Entry as declared_entry
use Rattle.net_model.specs.declared.net.Entry.TheVariants as entries
use Rattle.net_model.specs.declared.net.Row as declared_row
use Rattle.net_model.specs.declared.net.Table as declared_table
use Rattle.net_model.specs.declared.net.Latch as declared_latch
use Rattle.net_model.specs.declared.net.Net as declared_net

-- A network as plain data. A signal is told by its place among the names.

-- what a row allows in one column: every value, one value, the values of a list, every value but those of a list, or the
-- value that an input column of the table has, told by its place there
pub data Entry : Type 0 where
  Any : Entry
  Value : ℕ → Entry
  OneOf : List ℕ → Entry
  NotOneOf : List ℕ → Entry
  Equal : ℕ → Entry

-- an entry for each input column and for each output column
pub record Row : Type 0 where
  pub ins : List Entry
  pub outs : List Entry

pub record Table : Type 0 where
  pub ins : List ℕ
  pub outs : List ℕ
  pub rows : List Row
  pub otherwise : Option (List Entry)

pub record Latch : Type 0 where
  pub input : ℕ
  pub output : ℕ

pub record Net : Type 0 where
  pub names : Scope
  pub inputs : List ℕ
  pub outputs : List ℕ
  pub tables : List Table
  pub latches : List Latch
  pub resets : List Table

-- the plain data of the types of the code
abbrev pub entry_of : declared_entry.Entry → Entry
entry_of entries.Any = Any
entry_of (entries.Value value) = Value value
entry_of (entries.OneOf values) = OneOf values.items
entry_of (entries.NotOneOf values) = NotOneOf values.items
entry_of (entries.Equal column) = Equal column

abbrev pub row_of : declared_row.Row → Row
row_of row = record { ins = map entry_of row.ins.items; outs = map entry_of row.outs.items }

abbrev pub table_of : declared_table.Table → Table
table_of table = record {
  ins = map (λ v. v.0) table.ins.items;
  outs = map (λ v. v.0) table.outs.items;
  rows = map row_of table.rows.items;
  otherwise = option_map (λ default. map entry_of default.items) table.otherwise;
}

abbrev pub latch_of : declared_latch.Latch → Latch
latch_of latch = record { input = latch.input.0; output = latch.output.0 }

abbrev pub net_of : declared_net.Net → Net
net_of net = record {
  names = net.names;
  inputs = map (λ v. v.0) net.inputs.items;
  outputs = map (λ v. v.0) net.outputs.items;
  tables = map table_of net.tables.items;
  latches = map latch_of net.latches.items;
  resets = map table_of net.resets.items;
}
