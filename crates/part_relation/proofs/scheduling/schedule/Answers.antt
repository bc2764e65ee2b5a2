use Rattle.std.proofs.Common.{◌≡◌, ◌+◌, ℕ, Bool, List, not, length, sym, ap, ◌∙◌, subst, arith}
use Rattle.bdd_ops.specs.Levels.{is_in}
use Rattle.part_relation.specs.Plans.{Plan, Fits, named_by}
use Rattle.part_relation.specs.Supports.{AreOfTurn}
use Rattle.part_relation.proofs.Turns.{IsDraft, draft-next, draft-fits, draft-names}
use Rattle.part_relation.proofs.scheduling.schedule.Goals as goal

-- what `levels_at` says of the slices of two vectors
of-vectors : (turns given : List ℕ) (kept marks : List Bool) (turn : ℕ) (levels : List ℕ) → given ≡ turns → marks ≡ kept → AreOfTurn given marks turn (length given) levels → AreOfTurn turns kept turn (length turns) levels
of-vectors turns given kept marks turn levels same also are =
    let P : List ℕ → Type 0 = λ list. AreOfTurn list kept turn (length list) levels in
    let Q : List Bool → Type 0 = λ list. AreOfTurn given list turn (length given) levels in
    subst P same (subst Q also are)

pub loop-place-preserved : goal.loop-place-preserved
loop-place-preserved c =
    draft-next c.in_ok-turns.turns.items c.in_ok-kept.kept.items c.loop-place.place c.loop-place.order.items c.push.new.self.items c.in_ok-levels_at.field-0 c.loop-place.hides.items c.push-in-loop-place.new.self.items c.loop-place.invariant c.in_ok-push.ensures.items c.in_ok-push-2.ensures.items
    (of-vectors c.in_ok-turns.turns.items c.deref-in-loop-place.result.now c.in_ok-kept.kept.items c.deref-in-loop-place-2.result.now (c.loop-place.place + 1) c.in_ok-levels_at.field-0 c.deref-in-loop-place.ensures.value c.deref-in-loop-place-2.ensures.value c.in_ok-levels_at.ensures)

pub returns-clause-fits : goal.returns-clause-fits
returns-clause-fits c =
    let P : Plan → Type 0 = λ plan. Fits c.args.space.now c.args.parts.now plan in
    let D : ℕ → Type 0 = λ n. IsDraft c.in_ok-turns.turns.items c.in_ok-kept.kept.items n c.loop-place.order.items c.loop-place.hides.items in
    subst P (sym c.of.ensures)
    (draft-fits c.args.space.now c.args.parts.now c.in_ok-turns.turns.items c.in_ok-kept.kept.items c.in_ok-turns.ensures.turns c.loop-place.order.items c.in_ok-first.first c.loop-place.hides.items
    (of-vectors c.in_ok-turns.turns.items c.deref.result.now c.in_ok-kept.kept.items c.deref-2.result.now 0 c.in_ok-first.first c.deref.ensures.value c.deref-2.ensures.value c.in_ok-first.ensures)
    (subst D (omega (arith, c.len-place-end.ensures)) c.loop-place.invariant))

pub returns-clause-keep : goal.returns-clause-keep
returns-clause-keep c level exists =
    let P : Plan → Type 0 = λ plan. is_in (named_by plan) level ≡ not (is_in c.args.keep.now level) in
    let D : ℕ → Type 0 = λ n. IsDraft c.in_ok-turns.turns.items c.in_ok-kept.kept.items n c.loop-place.order.items c.loop-place.hides.items in
    subst P (sym c.of.ensures)
    (draft-names c.args.space.now c.args.parts.now c.in_ok-turns.turns.items c.in_ok-kept.kept.items c.in_ok-turns.ensures.turns c.loop-place.order.items c.in_ok-first.first c.loop-place.hides.items
    (of-vectors c.in_ok-turns.turns.items c.deref.result.now c.in_ok-kept.kept.items c.deref-2.result.now 0 c.in_ok-first.first c.deref.ensures.value c.deref-2.ensures.value c.in_ok-first.ensures)
    (subst D (omega (arith, c.len-place-end.ensures)) c.loop-place.invariant) level exists
    ∙ ap not (c.in_ok-kept.ensures.marks level))
