use Rattle.std.proofs.Common.{◌≡◌, ◌&&◌, not, false, take}
use Rattle.node_table.specs.Table.{value_at, Grows}
use Rattle.bdd_ops.specs.Meaning.{StandsFor}
use Rattle.det_core.specs.Automata.{is_covered}
use Rattle.det_core.proofs.completing.uncovered.Given as goal

abbrev pub invariant-loop-m : goal.invariant-loop-m
invariant-loop-m l = record {
  zero_is : StandsFor l.space l.zero (λ bits. false);
  rest_is : StandsFor l.space l.rest (λ bits. value_at l.fn.space l.fn.valid bits && not (is_covered l.fn.space (take l.m-index l.moves) bits));
  grows : Grows l.fn.space l.space;
  levels : l.space.levels ≡ l.fn.space.levels;
}
