use Rattle.std.proofs.Common.{length, arith}
use Rattle.std.proofs.lemmas.Result.{IfOk-weaker}
use Rattle.bdd_ops.specs.Levels.{IsSetOf}
use Rattle.part_relation.specs.Supports.{AreOfTurn}
use Rattle.part_relation.proofs.Turns.{set-of-turn}
use Rattle.part_relation.proofs.scheduling.levels_at.Goals as goal

pub returns : goal.returns
returns c =
    IfOk-weaker c.of.result (IsSetOf c.deref.result.now) (AreOfTurn c.args.turns.now c.args.kept.now c.args.turn (length c.args.turns.now))
    (λ set is. set-of-turn c.args.turns.now c.args.kept.now c.args.turn c.loop-level.level c.loop-level.levels.items c.deref.result.now set (omega arith) c.deref.ensures.value c.loop-level.invariant.named is)
    c.of.ensures
