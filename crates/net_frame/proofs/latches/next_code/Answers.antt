use Rattle.std.proofs.Common.{◌≡◌, ◌+◌, ◌∙◌, arith}
use Rattle.std.proofs.lemmas.Result.{IfOk-weaker}
use Rattle.name_table.specs.ScopeVars.{variable_at}
use Rattle.net_model.specs.Nets.{net_of}
use Rattle.mv_encoding.specs.Spots.{spot_of}
use Rattle.net_frame.specs.Frames.{next_spot}
use Rattle.net_frame.proofs.Summed.{levelled, own-latch}
use Rattle.net_frame.proofs.latches.next_code.Goals as goal

pub bounds-before-output : goal.bounds-before-output
bounds-before-output c = (levelled (net_of c.args.net.now) c.args.start c.args.output.0 c.args.before.now c.requires.before c.requires.output c.requires.room).there

pub overflow_add-level : goal.overflow_add-level
overflow_add-level c =
    let low = (levelled (net_of c.args.net.now) c.args.start c.args.output.0 c.args.before.now c.requires.before c.requires.output c.requires.room).low in
    omega (arith, low)

pub overflow_add-level-2 : goal.overflow_add-level-2
overflow_add-level-2 c =
    let low = (levelled (net_of c.args.net.now) c.args.start c.args.output.0 c.args.before.now c.requires.before c.requires.output c.requires.room).low in
    let twice = own-latch (net_of c.args.net.now) c.args.output.0 c.requires.latch in
    omega (arith, low, twice, c.bits_of_signal-bits.ensures.bits)

pub code_of_signal-requires-clause-low : goal.code_of_signal-requires-clause-low
code_of_signal-requires-clause-low c =
    let low = (levelled (net_of c.args.net.now) c.args.start c.args.output.0 c.args.before.now c.requires.before c.requires.output c.requires.room).low in
    let twice = own-latch (net_of c.args.net.now) c.args.output.0 c.requires.latch in
    omega (arith, low, twice, c.bits_of_signal-bits.ensures.bits)

pub returns : goal.returns
returns c =
    let is = (levelled (net_of c.args.net.now) c.args.start c.args.output.0 c.args.before.now c.requires.before c.requires.output c.requires.room).is in
    IfOk-weaker c.code_of_signal.result _ (λ code. code ≡ next_spot (net_of c.args.net.now) c.args.start c.args.output.0)
    (λ code made. made ∙ (λ i. spot_of (variable_at c.args.net.now.names c.args.output.0) (is i + c.bits_of_signal-bits.ensures.bits i))) c.code_of_signal.ensures
