use Rattle.std.proofs.Common.{◌≡◌, ◌≤◌, ◌-◌, length}
use Rattle.node_table.specs.Table.{Grows}
use Rattle.bdd_walk.specs.Splitting.{AreOver}
use Rattle.bdd_walk.proofs.joins.nodes_over.Given as goal

abbrev pub invariant-loop-left : goal.invariant-loop-left
invariant-loop-left l = record {
  grows : Grows l.fn.space l.space;
  levels : l.space.levels ≡ l.fn.space.levels;
  few : length l.pieces.items ≤ length l.all.entries;
  over : AreOver l.space l.level l.all.entries l.pieces.items;
}

abbrev pub decreases-loop-left : goal.decreases-loop-left
decreases-loop-left l = length l.all.entries - length l.pieces.items
