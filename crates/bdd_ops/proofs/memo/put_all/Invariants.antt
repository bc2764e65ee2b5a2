use Rattle.std.proofs.Common.{◌⊎◌}
use Rattle.bdd_ops.specs.declared.memo.Entry.{Entry}
use Rattle.bdd_ops.specs.Recursion.{IsHeld}
use Rattle.bdd_ops.proofs.memo.put_all.Given as goal

abbrev pub invariant-loop-entry : goal.invariant-loop-entry
invariant-loop-entry l = (e : Entry) → IsHeld l.slots e → IsHeld l.initial.slots e ⊎ IsHeld l.others e
