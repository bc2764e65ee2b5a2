use Rattle.part_relation.proofs.Early.{IsTaken}
use Rattle.part_relation.proofs.images.image.Given as goal

abbrev pub invariant-loop-place : goal.invariant-loop-place
invariant-loop-place l = IsTaken l.fn.space l.space l.parts l.plan l.fn.from l.place l.left
