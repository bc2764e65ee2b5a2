use Rattle.std.proofs.Common.{◌≡◌, ◌<◌, ◌∙◌, length, map, sym, ap, subst, true}
use Rattle.std.specs.Prelude.{All}
use Rattle.std.proofs.lemmas.List.{take_all}
use Rattle.name_table.specs.ScopeVars.{variable_at}
use Rattle.net_model.specs.Nets.{net_of}
use Rattle.net_model.specs.NetLanguages.{letter_signals}
use Rattle.net_model.proofs.Letters.{listed_known}
use Rattle.net_frame.specs.Frames.{letter_spot}
use Rattle.net_frame.specs.Making.{has_letter}
use Rattle.net_frame.proofs.Among.{mapped-holds, map-map}
use Rattle.net_frame.proofs.Gathered.{taken-more}
use Rattle.net_frame.proofs.letters.codes_of_letters.Goals as goal

pub letter_code-requires-clause-letter : goal.letter_code-requires-clause-letter
letter_code-requires-clause-letter c =
    let net = net_of c.args.net.now in
    let all = listed_known net c.in_ok-letters.letters.items (λ v. v.0) c.in_ok-letters.ensures c.requires.sound in
    (subst (λ vars. All (λ v. v.0 < length c.args.net.now.names) vars) (sym c.deref-letter-items.ensures.value) all) c.loop-letter.letter-index _ c.loop-letter-test.true

pub letter_code-requires-clause-there : goal.letter_code-requires-clause-there
letter_code-requires-clause-there c =
    let net = net_of c.args.net.now in
    let are = ap (map (λ v. v.0)) c.deref-letter-items.ensures.value ∙ c.in_ok-letters.ensures in
    mapped-holds (λ signal. has_letter c.args.mode c.args.joint.now (variable_at c.args.net.now.names signal).name ≡ true) (λ v. v.0) c.deref-letter-items.result.now (letter_signals net) are c.requires.there c.loop-letter.letter-index _ c.loop-letter-test.true

pub loop-letter-preserved : goal.loop-letter-preserved
loop-letter-preserved c =
    taken-more (λ letter. letter_spot c.args.mode c.args.joint.now (variable_at c.args.net.now.names letter.0).name) c.deref-letter-items.result.now c.loop-letter.codes.items c.push.new.self.items c.in_ok-letter_code.field-0 c.loop-letter.letter-index _ c.loop-letter-test.true c.loop-letter.invariant c.in_ok-letter_code.ensures c.in_ok-push.ensures.items

pub returns : goal.returns
returns c =
    let are = ap (map (λ v. v.0)) c.deref-letter-items.ensures.value ∙ c.in_ok-letters.ensures in
    c.loop-letter.invariant
    ∙ ap (map (λ letter. letter_spot c.args.mode c.args.joint.now (variable_at c.args.net.now.names letter.0).name)) (take_all c.loop-letter.letter-index c.deref-letter-items.result.now c.loop-letter-test.false)
    ∙ sym (map-map (λ signal. letter_spot c.args.mode c.args.joint.now (variable_at c.args.net.now.names signal).name) (λ v. v.0) c.deref-letter-items.result.now)
    ∙ ap (map (λ signal. letter_spot c.args.mode c.args.joint.now (variable_at c.args.net.now.names signal).name)) are
