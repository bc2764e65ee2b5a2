use Rattle.std.proofs.Common.{◌≡◌}
use Rattle.node_table.specs.Table.{IsValid, Grows}
use Rattle.automata_tests.proofs.drawing.cube.Given as goal

abbrev pub invariant-loop-level : goal.invariant-loop-level
invariant-loop-level l = record {
  valid : IsValid l.space l.cube;
  grows : Grows l.initial.space l.space;
  levels : l.space.levels ≡ l.initial.space.levels;
}
