use Rattle.std.proofs.Common.{◌≡◌, map, drop}
use Rattle.net_model.specs.Nets.{entry_of}
use Rattle.net_model.specs.Tables.{entries_allow}
use Rattle.node_table.specs.Table.{Grows}
use Rattle.bdd_ops.specs.Meaning.{StandsFor}
use Rattle.table_parts.specs.Columns.{numbers_in}
use Rattle.table_parts.specs.Held.{AreRight}
use Rattle.table_parts.proofs.entries.entries_part.Given as goal

abbrev pub invariant-loop-place : goal.invariant-loop-place
invariant-loop-place l = record {
  stands : StandsFor l.space l.allowed (λ bits. entries_allow (numbers_in l.signals l.ins bits) (map entry_of (drop l.place l.entries)) (numbers_in l.signals (drop l.place l.columns) bits));
  grows : Grows l.initial.space l.space;
  levels : l.space.levels ≡ l.initial.space.levels;
  right : AreRight l.signals l.space l.equalities;
}
