use Rattle.std.proofs.Common.{arith}
use Rattle.mv_encoding.proofs.Letters.{letter-from-values}
use Rattle.automata_tests.proofs.automata.is_letter.Goals as goal

pub returns : goal.returns
returns c is =
    letter-from-values c.args.scope.now c.args.letter.now.values.items (omega (arith, c.args.letter.now.values.ok, c.len-var-end.ensures.len))
    (λ var known. c.loop-var.invariant var (omega (arith, known, c.loop-var-test.false, c.len-var-end.ensures.len)))
