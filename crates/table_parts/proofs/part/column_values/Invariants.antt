use Rattle.std.proofs.Common.{◌≡◌, drop}
use Rattle.node_table.specs.Table.{Grows}
use Rattle.bdd_ops.specs.Meaning.{StandsFor}
use Rattle.mv_encoding.specs.Spots.{spots_at, spell_values}
use Rattle.table_parts.specs.Columns.{signals_of}
use Rattle.table_parts.proofs.part.column_values.Given as goal

abbrev pub invariant-loop-place : goal.invariant-loop-place
invariant-loop-place l = record {
  stands : StandsFor l.space l.values (spell_values (spots_at l.signals (signals_of (drop l.place l.columns))));
  grows : Grows l.initial.space l.space;
  levels : l.space.levels ≡ l.initial.space.levels;
}
