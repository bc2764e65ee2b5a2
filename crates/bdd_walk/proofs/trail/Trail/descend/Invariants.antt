use Rattle.std.proofs.Common.{◌≡◌, ◌-◌}
use Rattle.node_table.specs.Table.{top_of}
use Rattle.bdd_walk.specs.Walk.{paths_left, IsTrail}
use Rattle.bdd_walk.proofs.trail.Trail.descend.Given as goal

abbrev pub invariant-loop-level : goal.invariant-loop-level
invariant-loop-level l = record {
  trail : IsTrail l.space l.self;
  left : paths_left l.space.nodes l.self ≡ paths_left l.space.nodes l.fn.self;
  some : l.self.below ≡ 0 → ⊥;
}

abbrev pub decreases-loop-level : goal.decreases-loop-level
decreases-loop-level l = l.space.levels - top_of l.space l.self.below
