use Rattle.std.proofs.Common.{[], cond, nat_eq, ap, arith}
use Rattle.std.specs.List.{list_any}
use Rattle.name_table.specs.ScopeVars.{variable_at}
use Rattle.net_model.specs.Nets.{net_of}
use Rattle.net_model.specs.Conditions.{latch_outputs}
use Rattle.net_frame.specs.Frames.{back_at, back_from}
use Rattle.net_frame.proofs.Gathered.{joined-more}
use Rattle.net_frame.proofs.Summed.{levelled}
use Rattle.net_frame.proofs.latches.pairs_of_latches.Goals as goal

pub bounds-before-signal : goal.bounds-before-signal
bounds-before-signal c =
    (levelled (net_of c.args.net.now) c.args.start c.loop-signal.signal c.args.before.now c.requires.before (omega (arith, c.loop-signal-test.true, c.len-signal-end.ensures.len)) c.requires.room).there

pub overflow_add-level : goal.overflow_add-level
overflow_add-level c =
    let low = (levelled (net_of c.args.net.now) c.args.start c.loop-signal.signal c.args.before.now c.requires.before (omega (arith, c.loop-signal-test.true, c.len-signal-end.ensures.len)) c.requires.room).low in
    omega (arith, low)

pub push_pairs-requires-clause-low : goal.push_pairs-requires-clause-low
push_pairs-requires-clause-low c =
    let low = (levelled (net_of c.args.net.now) c.args.start c.loop-signal.signal c.args.before.now c.requires.before (omega (arith, c.loop-signal-test.true, c.len-signal-end.ensures.len)) c.requires.room).low in
    omega (arith, low)

pub loop-signal-preserved : goal.loop-signal-preserved
loop-signal-preserved c =
    let net = net_of c.args.net.now in
    let is = (levelled (net_of c.args.net.now) c.args.start c.loop-signal.signal c.args.before.now c.requires.before (omega (arith, c.loop-signal-test.true, c.len-signal-end.ensures.len)) c.requires.room).is in
    let v = variable_at net.names c.loop-signal.signal in
    let pairs = ap (λ level. cond (list_any (nat_eq c.loop-signal.signal) (latch_outputs net)) (back_at v level) []) is in
    record {
      pairs = joined-more (back_from net c.args.start) c.loop-signal.pairs.items c.push_pairs.new.pairs.items _ c.loop-signal.signal c.loop-signal.invariant.pairs pairs c.in_ok-push_pairs.ensures.pairs;
      few = omega (arith, c.in_ok-push_pairs.ensures.few, c.loop-signal.invariant.few);
    }
