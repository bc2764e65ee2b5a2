use Rattle.std.proofs.Common.{arith}
use Rattle.automata_tests.proofs.drawing.with_sign.Goals as goal

pub mk-requires-clause-hi_below : goal.mk-requires-clause-hi_below
mk-requires-clause-hi_below c = omega (arith, c.if-level-top.false, c.top.ensures.within, c.zero-zero.ensures.top)

pub mk-requires-in-49-clause-lo_below : goal.mk-requires-in-49-clause-lo_below
mk-requires-in-49-clause-lo_below c = omega (arith, c.if-level-top.false, c.top.ensures.within, c.zero-zero.ensures.top)
