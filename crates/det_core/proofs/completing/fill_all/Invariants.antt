use Rattle.std.proofs.Common.{◌≡◌}
use Rattle.node_table.specs.Table.{value_at, Grows}
use Rattle.det_core.specs.Automata.{states_of}
use Rattle.det_core.specs.Filling.{AreFilled}
use Rattle.det_core.proofs.completing.fill_all.Given as goal

abbrev pub invariant-loop-state : goal.invariant-loop-state
invariant-loop-state l = record {
  filled : AreFilled l.fn.space l.space (value_at l.fn.space l.fn.valid) l.det l.state (states_of l.done.items) l.lacking;
  grows : Grows l.fn.space l.space;
  levels : l.space.levels ≡ l.fn.space.levels;
}
