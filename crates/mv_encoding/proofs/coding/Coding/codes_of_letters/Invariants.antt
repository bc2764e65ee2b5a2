use Rattle.std.proofs.Common.{◌≡◌}
use Rattle.node_table.specs.Table.{Grows}
use Rattle.bdd_ops.specs.Recursion.{StandsBelow}
use Rattle.mv_encoding.specs.Fields.{level_of, is_letter_from}
use Rattle.mv_encoding.proofs.coding.Coding.codes_of_letters.Given as goal

abbrev pub invariant-loop-var : goal.invariant-loop-var
invariant-loop-var l = record {
  stands : StandsBelow l.space (level_of l.self l.var) l.codes (is_letter_from l.self l.var);
  grows : Grows l.initial.space l.space;
  levels : l.space.levels ≡ l.initial.space.levels;
}
