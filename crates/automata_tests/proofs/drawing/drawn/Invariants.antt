use Rattle.std.proofs.Common.{◌≡◌}
use Rattle.node_table.specs.Table.{IsValid, Grows}
use Rattle.automata_tests.proofs.drawing.drawn.Given as goal

abbrev pub invariant-loop-pattern : goal.invariant-loop-pattern
invariant-loop-pattern l = record {
  valid : IsValid l.space l.set;
  grows : Grows l.initial.space l.space;
  levels : l.space.levels ≡ l.initial.space.levels;
}
