use Rattle.std.proofs.Common.{◌<◌, length, arith}
use Rattle.net_problem.proofs.BitSums.{bits-next}
use Rattle.net_problem.proofs.bit_counts.bits_of_letter.Goals as goal

pub loop-var-preserved : goal.loop-var-preserved
loop-var-preserved c =
    let known : c.loop-var.var < length c.args.scope.now = omega (arith, c.loop-var-test.true, c.len-var-end.ensures.len) in
    let next = bits-next c.args.scope.now c.loop-var.var known in
    record {
      before = omega (arith, next, c.bits_of_variable.ensures.bits, c.from-bits.ensures, c.loop-var.invariant.before);
      few = omega (arith, c.bits_of_variable.ensures.few, c.from-bits.ensures, c.loop-var.invariant.few);
    }
