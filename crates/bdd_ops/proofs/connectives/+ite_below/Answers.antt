use Rattle.std.proofs.Common.{◌<◌, ◌≡◌, ◌∙◌, ◌⊎◌, ℕ, if◌then◌else◌, Err, sym, ap, subst, arith}
use Rattle.std.proofs.lemmas.Result.{err_from_is_err_and}
use Rattle.bdd_ops.specs.declared.choice.Choice.{Choice}
use Rattle.bdd_ops.specs.declared.memo.Memo.{Memo}
use Rattle.node_table.specs.Table.{Table, Grows, value_at}
use Rattle.node_table.proofs.Growth.{grows-trans, valid-grows}
use Rattle.bdd_ops.specs.Meaning.{IsMissing}
use Rattle.bdd_ops.specs.Recursion.{AreValid, low_of, ite_value, StandsBelow, IsNoted, IsRight, IsIte}
use Rattle.bdd_ops.proofs.Choices.{choice-grows, ite-grows, low-grows, ite-later, ite-node, ite-step, IsIte-grows}
use Rattle.bdd_ops.proofs.Memos.{right-later}
use Rattle.bdd_ops.proofs.Missing.{missing-same, refused-missing, ite-missing}
use Rattle.bdd_ops.proofs.connectives.+ite_below.Goals as goal

pub returns-in-Some-recall-clause-ok : goal.returns-in-Some-recall-clause-ok
returns-in-Some-recall-clause-ok t c = c.requires.memo.answer c.args.c.now c.in-Some-recall.r c.in-Some-recall.ensures

pub returns-in_err-r-clause-grows : goal.returns-in_err-r-clause-grows
returns-in_err-r-clause-grows t c =
    grows-trans _ _ _ c.in_ok-lo.ensures.grows (grows-trans _ _ _ c.in_ok-hi.ensures.grows c.in_err-r.ensures.grows)

pub returns-in_err-note-clause-grows : goal.returns-in_err-note-clause-grows
returns-in_err-note-clause-grows t c =
    grows-trans _ _ _ c.in_ok-lo.ensures.grows (grows-trans _ _ _ c.in_ok-hi.ensures.grows c.in_ok-r.ensures.grows)

pub returns-clause-grows : goal.returns-clause-grows
returns-clause-grows t c =
    grows-trans _ _ _ c.in_ok-lo.ensures.grows (grows-trans _ _ _ c.in_ok-hi.ensures.grows c.in_ok-r.ensures.grows)

pub returns-clause-ok : goal.returns-clause-ok
returns-clause-ok t c =
    ite-step c.low-level.ensures c.cofactors-c0.ensures c.cofactors-c1.ensures c.in_ok-lo.ensures.grows c.in_ok-hi.ensures.grows c.in_ok-lo.ensures.ok c.in_ok-hi.ensures.ok c.in_ok-r.ensures.ok

-- the answer is noted
noted-right : {t b new : Table} {old m : Memo} {c : Choice} {r : ℕ} → Grows t new → new.levels ≡ t.levels → Grows b new → new.levels ≡ b.levels → ((d : Choice) (s : ℕ) → IsNoted m d s → ((d ≡ c) × (s ≡ r)) ⊎ IsNoted old d s) → IsRight IsIte b old → AreValid t c → StandsBelow new (low_of t c) r (ite_value t c) → IsRight IsIte new m
noted-right {t} {b} {new} {old} {m} {c} {r} grow levels last last_levels noted right valid answer =
    right-later IsIte b new last (IsIte-grows b new last last_levels) old m c r noted right (choice-grows t new grow c valid) (ite-later t new grow levels c r valid answer)

pub returns-in_err-note-clause-memo : goal.returns-in_err-note-clause-memo
returns-in_err-note-clause-memo t c =
    noted-right {old = c.ite_below-2.new.memo} {m = c.note.new.self} (returns-in_err-note-clause-grows t c) (c.in_ok-r.ensures.levels ∙ c.in_ok-hi.ensures.levels ∙ c.in_ok-lo.ensures.levels) c.in_ok-r.ensures.grows c.in_ok-r.ensures.levels c.in_err-note.ensures.noted c.in_ok-hi.ensures.memo c.requires.choice
    (ite-step c.low-level.ensures c.cofactors-c0.ensures c.cofactors-c1.ensures c.in_ok-lo.ensures.grows c.in_ok-hi.ensures.grows c.in_ok-lo.ensures.ok c.in_ok-hi.ensures.ok c.in_ok-r.ensures.ok)

pub returns-clause-memo : goal.returns-clause-memo
returns-clause-memo t c =
    noted-right {old = c.ite_below-2.new.memo} {m = c.note.new.self} (returns-clause-grows t c) (c.in_ok-r.ensures.levels ∙ c.in_ok-hi.ensures.levels ∙ c.in_ok-lo.ensures.levels) c.in_ok-r.ensures.grows c.in_ok-r.ensures.levels c.in_ok-note.ensures.noted c.in_ok-hi.ensures.memo c.requires.choice
    (returns-clause-ok t c)

pub returns-in_err-lo-clause-needed : goal.returns-in_err-lo-clause-needed
returns-in_err-lo-clause-needed t c full =
    let back = err_from_is_err_and c.from_residual.result c.from_residual.ensures.1 in
    let exists : c.low-level.result < c.ite_below.new.space.levels = omega (arith, c.low-level.ensures, c.in_err-lo.ensures.levels, c.in_default.ensures.none) in
    ite-missing c.ite_below.new.space c.requires.choice c.low-level.ensures exists c.cofactors-c0.ensures (c.in_err-lo.ensures.needed (ap Err (sym back.2) ∙ sym back.1 ∙ full))

pub returns-in_err-hi-clause-needed : goal.returns-in_err-hi-clause-needed
returns-in_err-hi-clause-needed t c full =
    let back = err_from_is_err_and c.from_residual-in_err-hi.result c.from_residual-in_err-hi.ensures.1 in
    let new : Table = c.ite_below-2.new.space in
    let exists : c.low-level.result < new.levels = omega (arith, c.low-level.ensures, c.in_ok-lo.ensures.levels, c.in_err-hi.ensures.levels, c.in_default.ensures.none) in
    ite-missing new c.requires.choice c.low-level.ensures exists c.cofactors-c1.ensures
    (missing-same new (ite_value c.ite_below.new.space c.cofactors-c1.result) (ite_value c.args.space.now c.cofactors-c1.result) (ite-grows c.args.space.now c.ite_below.new.space c.in_ok-lo.ensures.grows c.cofactors-c1.result c.cofactors-c1.ensures.valid)
    (c.in_err-hi.ensures.needed (ap Err (sym back.2) ∙ sym back.1 ∙ full)))

pub returns-in_err-r-clause-needed : goal.returns-in_err-r-clause-needed
returns-in_err-r-clause-needed t c full =
    let back = err_from_is_err_and c.from_residual-in_err-r.result c.from_residual-in_err-r.ensures.1 in
    let a : Table = c.ite_below.new.space in
    let b : Table = c.ite_below-2.new.space in
    let low = c.in_ok-lo.ensures.ok in
    let high = c.in_ok-hi.ensures.ok in
    let lo_top = c.in_ok-hi.ensures.grows.top c.in_ok-hi.ensures.levels c.in_ok-lo.lo low.valid.held in
    let hi_low = low-grows c.args.space.now a c.in_ok-lo.ensures.grows c.in_ok-lo.ensures.levels c.cofactors-c1.result c.cofactors-c1.ensures.valid in
    let P : Table → Type 0 = λ s. IsMissing s (ite_value c.args.space.now c.args.c.now) in
    subst P (sym c.in_err-r.ensures.err)
    (missing-same b (λ bits. if bits c.low-level.result then value_at b c.in_ok-hi.hi bits else value_at b c.in_ok-lo.lo bits) (ite_value c.args.space.now c.args.c.now)
    (ite-node c.cofactors-c0.ensures c.cofactors-c1.ensures c.in_ok-lo.ensures.grows c.in_ok-hi.ensures.grows low high)
    (refused-missing (valid-grows a b c.in_ok-hi.ensures.grows c.in_ok-lo.lo low.valid) high.valid (omega (arith, lo_top, low.top, c.cofactors-c0.ensures.below)) (omega (arith, hi_low, high.top, c.cofactors-c1.ensures.below)) (c.in_err-r.ensures.full.0 (ap Err (sym back.2) ∙ sym back.1 ∙ full))))
