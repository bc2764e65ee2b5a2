use Rattle.std.proofs.Common.{◌∙◌, sym, ap, subst}
use Rattle.node_table.specs.Table.{value_at}
use Rattle.det_core.specs.Automata.{states_of, has_word, MeetsRule, IsComplete, IsDet}
use Rattle.det_core.proofs.Completions.{completed-det, completed-rule, completed-covers, completed-words}
use Rattle.det_core.proofs.completing.complete.Goals as goal

pub returns-in-Ok-clause-words : goal.returns-in-Ok-clause-words
returns-in-Ok-clause-words c word =
    ap (λ det. has_word c.completed.new.space det word) c.of.ensures
    ∙ completed-words c.args.space.now c.completed.new.space (value_at c.args.space.now c.args.valid) c.args.det (states_of c.in-Ok.states.items) (subst IsDet c.det.view_is c.det.invariant) c.in-Ok.ensures.ok word

pub returns-in-Ok-clause-rule : goal.returns-in-Ok-clause-rule
returns-in-Ok-clause-rule c =
    let letters = value_at c.args.space.now c.args.valid in
    subst (λ det. MeetsRule c.completed.new.space letters det) (sym c.of.ensures)
    (completed-rule c.args.space.now c.completed.new.space letters c.args.det (states_of c.in-Ok.states.items) (subst IsDet c.det.view_is c.det.invariant) c.in-Ok.ensures.ok)

pub returns-in-Ok-clause-complete : goal.returns-in-Ok-clause-complete
returns-in-Ok-clause-complete c =
    let letters = value_at c.args.space.now c.args.valid in
    subst (λ det. IsComplete c.completed.new.space letters det) (sym c.of.ensures)
    (completed-covers c.args.space.now c.completed.new.space letters c.args.det (states_of c.in-Ok.states.items) (subst IsDet c.det.view_is c.det.invariant) c.in-Ok.ensures.ok)

pub of-requires : goal.of-requires
of-requires c =
    completed-det c.args.space.now c.completed.new.space (value_at c.args.space.now c.args.valid) c.args.det (states_of c.in-Ok.states.items) (subst IsDet c.det.view_is c.det.invariant) c.in-Ok.ensures.ok
