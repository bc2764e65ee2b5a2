use Rattle.part_relation.proofs.Turns.{IsDraft}
use Rattle.part_relation.proofs.scheduling.schedule.Given as goal

abbrev pub invariant-loop-place : goal.invariant-loop-place
invariant-loop-place l = IsDraft l.turns.items l.kept.items l.place l.order.items l.hides.items
