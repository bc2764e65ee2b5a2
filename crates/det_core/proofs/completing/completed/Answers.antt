use Rattle.std.proofs.Common.{List, Bool, length, sym, subst}
use Rattle.node_table.specs.Table.{value_at}
use Rattle.det_core.specs.Automata.{State, states_of}
use Rattle.det_core.specs.Filling.{seen, AreFilled, IsLast, AreCompleted}
use Rattle.det_core.proofs.Completions.{completed-already, completed-more}
use Rattle.det_core.proofs.completing.completed.Goals as goal

pub returns-then-not-lacking-clause-ok : goal.returns-then-not-lacking-clause-ok
returns-then-not-lacking-clause-ok c =
    let letters = value_at c.args.space.now c.args.valid in
    let done = states_of c.fill_all.new.done.items in
    let Filled : Bool → Type 0 = λ lacking. AreFilled c.args.space.now c.fill_all.new.space letters c.args.det.now (length c.args.det.now) done lacking in
    completed-already c.args.space.now c.fill_all.new.space letters c.args.det.now done (subst Filled c.if-not-lacking.true c.in_ok-lacking.ensures.ok)

pub returns-clause-ok : goal.returns-clause-ok
returns-clause-ok c =
    let a = c.args.space.now in
    let b = c.fill_all.new.space in
    let letters = value_at a c.args.valid in
    let det = c.args.det.now in
    let done = states_of c.fill_all.new.done.items in
    let Filled : Bool → Type 0 = λ lacking. AreFilled a b letters det (length det) done lacking in
    let Whole : List State → Type 0 = λ states. AreCompleted a b letters det states in
    subst Whole (sym c.in_ok-put.ensures.ok)
    (completed-more a b letters det done (seen c.in_ok-last.last) (subst Filled c.if-not-lacking.false c.in_ok-lacking.ensures.ok)
    (subst (λ n. IsLast b letters n (seen c.in_ok-last.last)) c.states.ensures.states
    (subst (λ by. IsLast b by c.states.result (seen c.in_ok-last.last)) (λ i bits. c.in_ok-lacking.ensures.grows.value c.args.valid c.requires.valid.held bits i) c.in_ok-last.ensures.last)))
