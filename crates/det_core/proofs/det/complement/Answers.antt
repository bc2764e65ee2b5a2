use Rattle.std.proofs.Common.{◌≡◌, ◌+◌, ◌++◌, map, take, drop, sym, ap, ◌∙◌, subst, slice_set, arith}
use Rattle.std.proofs.lemmas.List.Edits.{map_over_more}
use Rattle.det_core.specs.declared.det.DetState.{DetState}
use Rattle.det_core.specs.Automata.{IsDet, has_word, turned, states_of}
use Rattle.det_core.proofs.Words.{flipped, all-flipped, turned-is, turned-words}
use Rattle.det_core.proofs.det.complement.Goals as goal

pub loop-state-preserved : goal.loop-state-preserved
loop-state-preserved c =
    let items = c.loop-state.state-items in
    let start = c.deref_mut-state-items.result.now in
    let index = c.loop-state.state-index in
    let Written : DetState → Type 0 = λ s. slice_set items index (flipped s) ≡ map flipped (take (index + 1) start) ++ drop (index + 1) start in
    subst Written c.state-item.is (map_over_more flipped start items index c.state-item.result (omega arith) c.loop-state.invariant c.state-item.is)

pub invariant_of-result : goal.invariant_of-result
invariant_of-result c =
    let whole = all-flipped c.loop-state.state-items c.det.inside.held.items c.deref_mut-state-items.result.now c.loop-state.state-index c.det.inside.held.len c.deref_mut-state-items.ensures.value (omega arith) c.loop-state.auto.state-items c.loop-state-test.false c.loop-state.invariant in
    subst IsDet (sym whole) (turned-is (states_of c.det.inside.held.items) c.det.invariant)

pub returns-clause-states : goal.returns-clause-states
returns-clause-states c =
    all-flipped c.loop-state.state-items c.det.inside.held.items c.deref_mut-state-items.result.now c.loop-state.state-index c.det.inside.held.len c.deref_mut-state-items.ensures.value (omega arith) c.loop-state.auto.state-items c.loop-state-test.false c.loop-state.invariant
    ∙ ap (map turned) c.det.view_is

pub returns-clause-words : goal.returns-clause-words
returns-clause-words c t letters complete word fits =
    let whole =
    all-flipped c.loop-state.state-items c.det.inside.held.items c.deref_mut-state-items.result.now c.loop-state.state-index c.det.inside.held.len c.deref_mut-state-items.ensures.value (omega arith) c.loop-state.auto.state-items c.loop-state-test.false c.loop-state.invariant
    ∙ ap (map turned) c.det.view_is in
    ap (λ det. has_word t det word) whole ∙ turned-words t letters c.args.det (subst IsDet c.det.view_is c.det.invariant) complete word fits
