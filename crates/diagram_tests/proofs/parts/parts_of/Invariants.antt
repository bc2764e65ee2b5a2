use Rattle.part_relation.specs.Plans.{AreValid}
use Rattle.diagram_tests.proofs.parts.parts_of.Given as goal

abbrev pub invariant-loop-k : goal.invariant-loop-k
invariant-loop-k l = AreValid l.drawing l.parts
