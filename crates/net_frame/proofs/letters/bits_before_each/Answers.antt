use Rattle.std.proofs.Common.{arith}
use Rattle.name_table.specs.CodeBits.{bits_in}
use Rattle.net_model.specs.Nets.{net_of}
use Rattle.net_problem.specs.ProblemBits.{own_before}
use Rattle.net_problem.proofs.BitSums.{own-next}
use Rattle.net_frame.proofs.Gathered.{mapped-more}
use Rattle.net_frame.proofs.letters.bits_before_each.Goals as goal

pub loop-signal-preserved : goal.loop-signal-preserved
loop-signal-preserved c =
    let net = net_of c.args.net.now in
    let next = own-next net c.loop-signal.signal in
    record {
      bits = omega (arith, next, c.own_bits_of-bits.ensures.bits, c.loop-signal.invariant.bits);
      few = omega (arith, c.own_bits_of-bits.ensures.few, c.loop-signal.invariant.few);
      before = mapped-more (λ signal. bits_in (own_before net signal)) c.loop-signal.before.items c.push.new.self.items c.loop-signal.bits c.loop-signal.signal c.loop-signal.invariant.before c.loop-signal.invariant.bits c.in_ok-push.ensures.items;
    }
