use Rattle.std.proofs.Common.{◌≡◌, drop}
use Rattle.node_table.specs.Table.{Grows}
use Rattle.bdd_ops.specs.Meaning.{StandsFor}
use Rattle.mv_encoding.specs.Spots.{spell_values}
use Rattle.mv_encoding.proofs.spots.all_values.Given as goal

abbrev pub invariant-loop-place : goal.invariant-loop-place
invariant-loop-place l = record {
  stands : StandsFor l.space l.values (spell_values (drop l.place l.spots));
  grows : Grows l.initial.space l.space;
  levels : l.space.levels ≡ l.initial.space.levels;
}
