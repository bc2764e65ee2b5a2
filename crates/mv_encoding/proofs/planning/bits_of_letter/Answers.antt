use Rattle.std.proofs.Common.{◌<◌, length, arith}
use Rattle.mv_encoding.proofs.Places.{before-next}
use Rattle.mv_encoding.proofs.planning.bits_of_letter.Goals as goal

pub loop-var-preserved : goal.loop-var-preserved
loop-var-preserved c =
    let known : c.loop-var.var < length c.args.scope.now = omega (arith, c.loop-var-test.true, c.len-var-end.ensures.len) in
    let next = before-next c.args.scope.now c.loop-var.var known in
    record {
      before = omega (arith, next, c.bits_at-bits.ensures.bits, c.loop-var.invariant.before);
      few = omega (arith, c.bits_at-bits.ensures.few, c.loop-var.invariant.few);
    }
