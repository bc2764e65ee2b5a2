use Rattle.std.proofs.Common.{arith}
use Rattle.net_model.specs.Nets.{net_of}
use Rattle.net_problem.proofs.BitSums.{own-next}
use Rattle.net_problem.proofs.bit_counts.own_bits.Goals as goal

pub loop-signal-preserved : goal.loop-signal-preserved
loop-signal-preserved c =
    let next = own-next (net_of c.args.net.now) c.loop-signal.signal in
    record {
      before = omega (arith, next, c.own_bits_of.ensures.bits, c.from-bits.ensures, c.loop-signal.invariant.before);
      few = omega (arith, c.own_bits_of.ensures.few, c.from-bits.ensures, c.loop-signal.invariant.few);
    }
