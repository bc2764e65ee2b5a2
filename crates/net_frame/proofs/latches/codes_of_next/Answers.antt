use Rattle.std.proofs.Common.{map, ap}
use Rattle.net_model.specs.Nets.{net_of, latch_of}
use Rattle.net_frame.specs.Frames.{next_spot}
use Rattle.net_frame.proofs.Latched.{latch-at, latches-more}
use Rattle.net_frame.proofs.latches.codes_of_next.Goals as goal

pub next_code-requires-clause-output : goal.next_code-requires-clause-output
next_code-requires-clause-output c =
    (latch-at (net_of c.args.net.now) c.requires.sound c.deref-latch-items.result.now (ap (λ items. map (λ latch. latch.output) (map latch_of items)) c.deref-latch-items.ensures.value) c.loop-latch.latch-index _ c.loop-latch-test.true).0

pub next_code-requires-clause-latch : goal.next_code-requires-clause-latch
next_code-requires-clause-latch c =
    (latch-at (net_of c.args.net.now) c.requires.sound c.deref-latch-items.result.now (ap (λ items. map (λ latch. latch.output) (map latch_of items)) c.deref-latch-items.ensures.value) c.loop-latch.latch-index _ c.loop-latch-test.true).1

pub loop-latch-preserved : goal.loop-latch-preserved
loop-latch-preserved c =
    latches-more (next_spot (net_of c.args.net.now) c.args.start) c.deref-latch-items.result.now c.args.net.now.latches.items c.deref-latch-items.ensures.value c.loop-latch.codes.items c.push.new.self.items c.in_ok-next_code.field-0 c.loop-latch.latch-index _ c.loop-latch-test.true c.loop-latch.invariant c.in_ok-next_code.ensures c.in_ok-push.ensures.items
