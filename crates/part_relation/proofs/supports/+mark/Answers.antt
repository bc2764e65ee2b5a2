use Rattle.std.proofs.Common.{refl, arith}
use Rattle.bdd_ops.proofs.Hiding.{value-constant}
use Rattle.part_relation.proofs.Ends.{marked-node}
use Rattle.part_relation.proofs.supports.+mark.Goals as goal

pub returns-in_ok-note-in-Some-clause-marked : goal.returns-in_ok-note-in-Some-clause-marked
returns-in_ok-note-in-Some-clause-marked t c =
    marked-node c.args.space.now c.args.r c.in-Some.level c.lo.result c.hi.result c.requires.r c.in-Some.ensures.level.0 c.in-Some.ensures.node c.lo.ensures.node c.hi.ensures.node c.args.marks.now c.mark.new.marks c.mark-in-Some.new.marks
    (omega (arith, c.in-Some.ensures.level.2, c.requires.levels)) c.in_ok-mark-in-Some.ensures.marked c.in_ok-mark-in-Some-2.ensures.marked

pub returns-in-None-clause-covered : goal.returns-in-None-clause-covered
returns-in-None-clause-covered t c level out u v same = value-constant c.args.space.now c.args.r (c.in-None.ensures.constant.0 refl) u v
