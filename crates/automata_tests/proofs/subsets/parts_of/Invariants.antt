use Rattle.std.proofs.Common.{◌≡◌}
use Rattle.node_table.specs.Table.{Grows}
use Rattle.part_relation.specs.Plans.{AreValid}
use Rattle.automata_tests.proofs.subsets.parts_of.Given as goal

abbrev pub invariant-loop-patterns : goal.invariant-loop-patterns
invariant-loop-patterns l = record {
  valid : AreValid l.space l.parts;
  grows : Grows l.initial.space l.space;
  levels : l.space.levels ≡ l.initial.space.levels;
}
