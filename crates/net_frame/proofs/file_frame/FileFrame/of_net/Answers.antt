use Rattle.std.proofs.Common.{◌≡◌, ◌∙◌, length, ap, arith}
use Rattle.std.proofs.lemmas.List.{length-map}
use Rattle.std.proofs.lemmas.Result.{IfOk-weaker}
use Rattle.name_table.specs.ScopeVars.{variable_at}
use Rattle.net_model.specs.Nets.{net_of}
use Rattle.net_model.specs.Conditions.{latch_outputs}
use Rattle.net_model.specs.NetLanguages.{letter_signals}
use Rattle.net_frame.specs.Placing.{FileSpots}
use Rattle.net_frame.specs.Frames.{letter_spot, own_spot, next_spot, net_spots}
use Rattle.net_frame.proofs.Latched.{outputs-few}
use Rattle.net_frame.proofs.LetterSpots.{letters-are, letters-few}
use Rattle.net_frame.proofs.file_frame.FileFrame.of_net.Goals as goal

pub with-requires-clause-letters : goal.with-requires-clause-letters
with-requires-clause-letters c =
    let net = net_of c.args.net.now in
    let size = ap length c.in_ok-letters.ensures ∙ length-map (letter_signals net) (λ signal. letter_spot c.args.mode c.args.joint.now (variable_at net.names signal).name) in
    let few = letters-few net c.requires.sound in
    omega (arith, size, few)

pub with-requires-clause-present : goal.with-requires-clause-present
with-requires-clause-present c =
    let net = net_of c.args.net.now in
    let size = ap length c.in_ok-present.ensures ∙ length-map (latch_outputs net) (own_spot net c.args.start) in
    let few = outputs-few net c.requires.sound in
    omega (arith, size, few)

pub with-requires-clause-next : goal.with-requires-clause-next
with-requires-clause-next c =
    let net = net_of c.args.net.now in
    let size = ap length c.in_ok-next.ensures ∙ length-map (latch_outputs net) (next_spot net c.args.start) in
    let few = outputs-few net c.requires.sound in
    omega (arith, size, few)

pub returns : goal.returns
returns c =
    let net = net_of c.args.net.now in
    let letters = c.in_ok-letters.ensures ∙ letters-are c.args.mode c.args.joint.now net c.args.start in
    let back = c.in_ok-back.ensures ∙ c.deref-5.ensures.value ∙ c.in_ok-pairs.ensures.pairs in
    IfOk-weaker c.with.result _ (λ (spots : FileSpots). spots ≡ net_spots c.args.mode c.args.joint.now c.args.start net)
    (λ spots made. made ∙ (λ i. record { letters = letters i; signals = c.in_ok-signals.ensures i; present = c.in_ok-present.ensures i; next = c.in_ok-next.ensures i; back = back i }))
    c.with.ensures
