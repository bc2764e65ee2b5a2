use Rattle.std.proofs.Common.{◌≡◌, ◌<◌, ◌^◌, length, OnOk, OnErr, subst, ◌∙◌, List, ℕ, arith}
use Rattle.io_core.specs.Gained.{gained, GainsFrontOf}
use Rattle.aut_format.proofs.Steps.{one-target}
use Rattle.aut_format.proofs.Printing.{det-automaton, det-means, det-steps, guards-valid}
use Rattle.aut_format.proofs.auto.write_auto.Goals as goal

pub auto_text-requires : goal.auto_text-requires
auto_text-requires g c = guards-valid c.args.space.now c.args.coding.now c.args.det.now c.requires.rule

pub returns-in_default-clause-automaton : goal.returns-in_default-clause-automaton
returns-in_default-clause-automaton g c =
    let few : length c.args.det.now < 2 ^ 64 = omega (arith, c.states-count.ensures.states, c.states-count.type_inv) in
    det-automaton c.args.space.now c.args.coding.now c.args.det.now c.requires.rule c.requires.reads c.args.name.now c.requires.name c.requires.vars c.states-count.ensures.det few

pub returns-clause-automaton : goal.returns-clause-automaton
returns-clause-automaton g c =
    let few : length c.args.det.now < 2 ^ 64 = omega (arith, c.states-count.ensures.states, c.states-count.type_inv) in
    det-automaton c.args.space.now c.args.coding.now c.args.det.now c.requires.rule c.requires.reads c.args.name.now c.requires.name c.requires.vars c.states-count.ensures.det few

pub returns-in_default-clause-meaning : goal.returns-in_default-clause-meaning
returns-in_default-clause-meaning g c =
    let few : length c.args.det.now < 2 ^ 64 = omega (arith, c.states-count.ensures.states, c.states-count.type_inv) in
    det-means c.args.space.now c.args.coding.now c.args.det.now c.requires.rule c.requires.reads c.args.name.now c.requires.name c.requires.vars c.states-count.ensures.det few

pub returns-clause-meaning : goal.returns-clause-meaning
returns-clause-meaning g c =
    let few : length c.args.det.now < 2 ^ 64 = omega (arith, c.states-count.ensures.states, c.states-count.type_inv) in
    det-means c.args.space.now c.args.coding.now c.args.det.now c.requires.rule c.requires.reads c.args.name.now c.requires.name c.requires.vars c.states-count.ensures.det few

pub returns-in_default-clause-steps : goal.returns-in_default-clause-steps
returns-in_default-clause-steps g c = det-steps c.args.space.now c.args.coding.now c.args.det.now c.requires.rule c.requires.reads

pub returns-clause-steps : goal.returns-clause-steps
returns-clause-steps g c = det-steps c.args.space.now c.args.coding.now c.args.det.now c.requires.rule c.requires.reads

pub returns-in_default-clause-once : goal.returns-in_default-clause-once
returns-in_default-clause-once g c = one-target c.args.space.now c.args.coding.now c.args.det.now c.requires.rule c.requires.reads

pub returns-clause-once : goal.returns-clause-once
returns-clause-once g c = one-target c.args.space.now c.args.coding.now c.args.det.now c.requires.rule c.requires.reads

pub returns-clause-ok : goal.returns-clause-ok
returns-clause-ok g c =
    let sink = g.O.Sink in
    subst (λ (text : List ℕ). OnOk c.write_all.result (sink.contents c.write_all.new.sink ≡ gained (sink.contents c.args.out.now) text)) (c.deref.ensures.value ∙ c.in-Ok.ensures) c.write_all.ensures.ok

pub returns-clause-refused : goal.returns-clause-refused
returns-clause-refused g c =
    let sink = g.O.Sink in
    subst (λ (text : List ℕ). OnErr c.write_all.result (GainsFrontOf (sink.contents c.args.out.now) (sink.contents c.write_all.new.sink) text)) (c.deref.ensures.value ∙ c.in-Ok.ensures) c.write_all.ensures.refused
