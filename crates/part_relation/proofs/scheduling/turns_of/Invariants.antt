use Rattle.part_relation.specs.Supports.{AreTurns}
use Rattle.part_relation.proofs.scheduling.turns_of.Given as goal

abbrev pub invariant-loop-place : goal.invariant-loop-place
invariant-loop-place l = AreTurns l.space l.parts l.place l.turns.items
