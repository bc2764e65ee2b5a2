use Rattle.std.proofs.Common.{◌≡◌, ◌-◌, ◌^◌, length}
use Rattle.node_table.specs.Table.{value_at, Grows}
use Rattle.det_core.specs.Automata.{states_of}
use Rattle.subset_build.specs.Relations.{Relation}
use Rattle.subset_build.specs.Subsets.{AreSets, AreStates}
use Rattle.subset_build.specs.Preparing.{IsGround}
use Rattle.subset_build.proofs.determinising.explore.Given as goal

abbrev pub invariant-loop-set : goal.invariant-loop-set
invariant-loop-set l = record {
  sets_are : (rel : Relation) → IsGround l.fn.space l.parts l.prepared l.fn.init l.acc l.valid rel → AreSets l.space rel (value_at l.fn.space l.valid) l.sets;
  states_are : (rel : Relation) → IsGround l.fn.space l.parts l.prepared l.fn.init l.acc l.valid rel → AreStates l.space rel (value_at l.fn.space l.valid) l.sets (states_of l.states.items);
  grows : Grows l.fn.space l.space;
  levels : l.space.levels ≡ l.fn.space.levels;
}

abbrev pub decreases-loop-set : goal.decreases-loop-set
decreases-loop-set l = 2 ^ 64 - length l.states.items
