use Rattle.std.proofs.Common.{◌≡◌, drop}
use Rattle.net_model.specs.Machines.{bits_allow}
use Rattle.node_table.specs.Table.{Grows}
use Rattle.bdd_ops.specs.Meaning.{StandsFor}
use Rattle.mv_encoding.specs.Spots.{spelled}
use Rattle.machine_parts.proofs.rows.bits_part.Given as goal

abbrev pub invariant-loop-place : goal.invariant-loop-place
invariant-loop-place l = record {
  stands : StandsFor l.space l.allowed (λ bits. bits_allow (drop l.place l.pattern) (spelled (drop l.place l.columns) bits));
  grows : Grows l.initial.space l.space;
  levels : l.space.levels ≡ l.initial.space.levels;
}
