use Rattle.std.proofs.Common.{not, ap, ◌∙◌}
use Rattle.std.specs.List.{list_any, list_all}
use Rattle.net_conditions.specs.Marks.{is_marked}
use Rattle.net_conditions.proofs.Tabled.{reset_holds, reset_fails}
use Rattle.net_conditions.proofs.resets.is_reset.Goals as goal

pub returns-then-not-has_any-clause-reset : goal.returns-then-not-has_any-clause-reset
returns-then-not-has_any-clause-reset c = λ net of_varying of_states.
    reset_holds net c.args.varying.now c.args.states.now c.args.table.now c.has_any.result of_varying
    (c.has_any.ensures ∙ ap (list_any (λ v. is_marked c.args.varying.now v.0)) c.deref.ensures.value)
    c.has_all.result of_states (c.has_all.ensures ∙ ap (list_all (λ v. is_marked c.args.states.now v.0)) c.deref-then-not-has_any.ensures.value) c.if-not-has_any.true

pub returns-else-not-has_any-clause-reset : goal.returns-else-not-has_any-clause-reset
returns-else-not-has_any-clause-reset c = λ net of_varying of_states.
    reset_fails net c.args.varying.now c.args.states.now c.args.table.now c.has_any.result of_varying
    (c.has_any.ensures ∙ ap (list_any (λ v. is_marked c.args.varying.now v.0)) c.deref.ensures.value)
    _ c.if-not-has_any.false (ap not c.if-not-has_any.false)
