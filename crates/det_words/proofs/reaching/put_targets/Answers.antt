use Rattle.det_words.proofs.Putting.{put-next}
use Rattle.det_words.proofs.reaching.put_targets.Goals as goal

pub loop-m-preserved : goal.loop-m-preserved
loop-m-preserved c =
    put-next c.args.reached.now c.loop-m.reached c.place_of.new.self c.args.moves.now c.loop-m.m-index c.in_ok-place_of.field-0 c.m-item.result c.loop-m-test.true c.m-item.is c.loop-m.invariant c.in_ok-place_of.ensures
