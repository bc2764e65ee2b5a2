use Rattle.part_relation.specs.Supports.{ArePutOff}
use Rattle.part_relation.proofs.scheduling.put_off.Given as goal

abbrev pub invariant-loop-level : goal.invariant-loop-level
invariant-loop-level l = ArePutOff l.initial.turns l.marks l.turn l.level l.turns
