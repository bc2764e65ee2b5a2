use Rattle.std.proofs.Common.{◌≡◌, ◌∙◌, true, cond, nat_eq, ap, arith}
use Rattle.std.specs.List.{list_any}
use Rattle.name_table.specs.ScopeVars.{variable_at}
use Rattle.net_model.specs.Nets.{net_of}
use Rattle.net_model.specs.NetLanguages.{letter_signals}
use Rattle.mv_encoding.specs.Spots.{spot_of}
use Rattle.net_frame.specs.Frames.{signal_spot, letter_spot}
use Rattle.net_frame.specs.Making.{has_letter}
use Rattle.net_frame.proofs.Gathered.{mapped-more}
use Rattle.net_frame.proofs.Among.{holds-among}
use Rattle.net_frame.proofs.Summed.{levelled}
use Rattle.net_frame.proofs.letters.codes_of_signals.Goals as goal

pub bounds-before-signal : goal.bounds-before-signal
bounds-before-signal c =
    (levelled (net_of c.args.net.now) c.args.start c.loop-signal.signal c.args.before.now c.requires.before (omega (arith, c.loop-signal-test.true, c.len-signal-end.ensures.len)) c.requires.room).there

pub overflow_add-level : goal.overflow_add-level
overflow_add-level c =
    let low = (levelled (net_of c.args.net.now) c.args.start c.loop-signal.signal c.args.before.now c.requires.before (omega (arith, c.loop-signal-test.true, c.len-signal-end.ensures.len)) c.requires.room).low in
    omega (arith, low)

pub code_of-requires-clause-there : goal.code_of-requires-clause-there
code_of-requires-clause-there c =
    holds-among (λ signal. has_letter c.args.mode c.args.joint.now (variable_at c.args.net.now.names signal).name ≡ true) (letter_signals (net_of c.args.net.now)) c.requires.there c.loop-signal.signal

pub code_of-requires-clause-low : goal.code_of-requires-clause-low
code_of-requires-clause-low c =
    let low = (levelled (net_of c.args.net.now) c.args.start c.loop-signal.signal c.args.before.now c.requires.before (omega (arith, c.loop-signal-test.true, c.len-signal-end.ensures.len)) c.requires.room).low in
    omega (arith, low)

pub loop-signal-preserved : goal.loop-signal-preserved
loop-signal-preserved c =
    let net = net_of c.args.net.now in
    let is = (levelled (net_of c.args.net.now) c.args.start c.loop-signal.signal c.args.before.now c.requires.before (omega (arith, c.loop-signal-test.true, c.len-signal-end.ensures.len)) c.requires.room).is in
    let v = variable_at net.names c.loop-signal.signal in
    let spot = ap (λ level. cond (list_any (nat_eq c.loop-signal.signal) (letter_signals net)) (letter_spot c.args.mode c.args.joint.now v.name) (spot_of v level)) is in
    mapped-more (signal_spot c.args.mode c.args.joint.now net c.args.start) c.loop-signal.codes.items c.push.new.self.items c.in_ok-code_of.field-0 c.loop-signal.signal c.loop-signal.invariant (c.in_ok-code_of.ensures ∙ spot) c.in_ok-push.ensures.items
