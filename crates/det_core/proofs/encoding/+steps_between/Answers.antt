use Rattle.std.proofs.Common.{◌||◌, ◌&&◌, ◌+◌, ◌-◌, ◌/◌, List, subst, arith}
use Rattle.std.proofs.lemmas.Result.{IfOk-weaker}
use Rattle.node_table.specs.Table.{value_at}
use Rattle.bdd_ops.specs.Meaning.{StandsFor}
use Rattle.det_core.specs.declared.det.Move.{Move}
use Rattle.det_core.specs.Codes.{code_number, leads_to, steps_by}
use Rattle.det_core.proofs.Encodings.{is_between, guards-at, steps-one, steps-halves}
use Rattle.det_core.proofs.encoding.+steps_between.Goals as goal

pub returns-in_ok-leads-clause-ok : goal.returns-in_ok-leads-clause-ok
returns-in_ok-leads-clause-ok t c =
    let a = c.args.space.now in
    let b = c.code.new.space in
    let d = c.leads.new.space in
    let e = c.and.new.space in
    let from = c.in_ok-from.from in
    let leads = c.in_ok-leads.leads in
    let code = code_number c.args.present.now in
    let target = code_number c.args.next.now in
    let Leads : List Move → Type 0 = λ moves. StandsFor d leads (λ bits. leads_to b moves bits (target bits)) in
    IfOk-weaker c.and.result (λ r. StandsFor e r (λ bits. value_at d from bits && value_at d leads bits)) (λ r. StandsFor e r (λ bits. is_between c.args.start c.args.end (code bits) && steps_by a c.args.det.now (code bits) bits (target bits)))
    (λ r both.
    steps-one a b d e c.args.det.now c.args.start c.args.end from leads r code target (omega (arith, c.if-end-start-eq1.true)) c.in_ok-from.ensures.grows (guards-at a c.args.det.now c.requires.guards c.args.start) c.in_ok-from.ensures.ok c.in_ok-leads.ensures.grows
    (subst Leads c.moves.ensures.moves c.in_ok-leads.ensures.ok) both)
    c.and.ensures.ok

pub returns-in_ok-second-clause-ok : goal.returns-in_ok-second-clause-ok
returns-in_ok-second-clause-ok t c =
    let a = c.args.space.now in
    let b = c.steps_between.new.space in
    let d = c.steps_between-else-end-start-eq1.new.space in
    let e = c.or.new.space in
    let first = c.in_ok-first.first in
    let second = c.in_ok-second.second in
    let code = code_number c.args.present.now in
    let target = code_number c.args.next.now in
    IfOk-weaker c.or.result (λ r. StandsFor e r (λ bits. value_at d first bits || value_at d second bits)) (λ r. StandsFor e r (λ bits. is_between c.args.start c.args.end (code bits) && steps_by a c.args.det.now (code bits) bits (target bits)))
    (λ r either.
    steps-halves a b d e c.args.det.now c.args.start c.args.end first second r code target (c.args.start + (c.args.end - c.args.start) / 2) (omega arith) (omega (arith, c.requires.some)) c.in_ok-first.ensures.grows c.requires.guards c.in_ok-first.ensures.ok c.in_ok-second.ensures.grows c.in_ok-second.ensures.ok either)
    c.or.ensures.ok
