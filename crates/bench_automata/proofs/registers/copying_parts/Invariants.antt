use Rattle.std.proofs.Common.{◌≡◌}
use Rattle.node_table.specs.Table.{Grows}
use Rattle.bench_automata.specs.Registers.{AreCopies}
use Rattle.bench_automata.proofs.registers.copying_parts.Given as goal

abbrev pub invariant-loop-latch : goal.invariant-loop-latch
invariant-loop-latch l = record {
  copies : AreCopies l.space l.letters l.latch l.parts;
  grows : Grows l.initial.space l.space;
  levels : l.space.levels ≡ l.initial.space.levels;
}
