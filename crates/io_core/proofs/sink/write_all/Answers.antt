use Rattle.std.proofs.Common.{arith, length-take, length-drop}
use Rattle.io_core.proofs.Gained.{taken_more}
use Rattle.io_core.proofs.sink.write_all.Goals as goal

pub loop-done-preserved : goal.loop-done-preserved
loop-done-preserved g c =
    let sink = g.O.Sink in
    record {
      within = omega (arith, simp (length-take, length-drop) at c.in-Ok.ensures.bound);
      so_far = taken_more (sink.contents c.args.sink.now) _ _ c.args.bytes.now c.loop-done.done c.in-Ok.taken c.loop-done.invariant.so_far c.in-Ok.ensures.taken;
      faults = omega (arith, c.in-Ok.ensures.cause.later);
      wants = omega (arith, c.in-Ok.ensures.cause.more);
    }
