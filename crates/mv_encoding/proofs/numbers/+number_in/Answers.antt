use Rattle.std.proofs.Common.{arith}
use Rattle.mv_encoding.proofs.Chains.{two-halves}
use Rattle.mv_encoding.proofs.numbers.+number_in.Goals as goal

pub returns-then-bit-clause-fits : goal.returns-then-bit-clause-fits
returns-then-bit-clause-fits t c =
    omega (arith, two-halves c.args.bits (omega arith), c.number_in-rest.ensures.fits, c.weight.ensures)
