use Rattle.bdd_walk.specs.Walk.{IsDown}
use Rattle.bdd_walk.proofs.least_bits.least.Given as goal

abbrev pub invariant-loop-place : goal.invariant-loop-place
invariant-loop-place l = IsDown l.space l.fn.f l.levels l.code l.place l.below
