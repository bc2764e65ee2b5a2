use Rattle.std.proofs.Common.{◌≡◌, length}
use Rattle.bdd_walk.specs.Walk.{paths_left, IsTrail}
use Rattle.bdd_walk.proofs.trail.Trail.turn.Given as goal

abbrev pub invariant-loop-lit : goal.invariant-loop-lit
invariant-loop-lit l = record {
  trail : IsTrail l.space l.self;
  left : paths_left l.space.nodes l.self ≡ paths_left l.space.nodes l.fn.self;
  done : l.self.below ≡ 0;
}

abbrev pub decreases-loop-lit : goal.decreases-loop-lit
decreases-loop-lit l = length l.self.lits.items
