use Rattle.std.proofs.Common.{◌≡◌, ◌++◌, Bool, List, map, take}
use Rattle.node_table.specs.Table.{Bits, Grows}
use Rattle.net_model.specs.Nets.{table_of}
use Rattle.table_parts.specs.TableParts.{part_value}
use Rattle.net_relation.specs.Relations.{AreFor}
use Rattle.net_relation.specs.States.{constant_tables}
use Rattle.net_relation.proofs.initial_states.add_constant.Given as goal

abbrev pub invariant-loop-table : goal.invariant-loop-table
invariant-loop-table l = record {
  are : (before : List (Bits → Bool)) → AreFor l.initial.space l.initial.parts before → AreFor l.space l.parts (before ++ map (part_value l.signals) (constant_tables l.varying (map table_of (take l.table-index l.tables))));
  grows : Grows l.initial.space l.space;
  levels : l.space.levels ≡ l.initial.space.levels;
}
