use Rattle.std.proofs.Common.{◌≡◌, ◌⊎◌, ◌∙◌, ℕ, Bool, List, true, false, if◌then◌else◌, Err, refl, sym, ap, subst, arith}
use Rattle.std.proofs.lemmas.Bool.{true≢false}
use Rattle.std.proofs.lemmas.Result.{err_from_is_err_and}
use Rattle.node_table.specs.Table.{Table, Grows, top_of, value_at, IsValid}
use Rattle.node_table.proofs.Growth.{grows-trans, valid-grows}
use Rattle.bdd_ops.specs.declared.choice.Choice.{Choice}
use Rattle.bdd_ops.specs.declared.memo.Memo.{Memo}
use Rattle.bdd_ops.specs.Levels.{is_in, sources, target_or, renamed}
use Rattle.bdd_ops.specs.Meaning.{IsMissing}
use Rattle.bdd_ops.specs.Recursion.{AreValid, StandsBelow, IsNoted, IsRight, IsRenamed}
use Rattle.bdd_ops.proofs.Choices.{choice-grows}
use Rattle.bdd_ops.proofs.Memos.{right-later}
use Rattle.bdd_ops.proofs.Renamed.{top-in, end-depends, depends-grows, renamed-constant, renamed-later, IsRenamed-grows, renaming, renamed-both, renamed-step}
use Rattle.bdd_ops.proofs.Missing.{missing-same, refused-missing, renamed-missing}
use Rattle.bdd_ops.proofs.renaming.+rename_below.Goals as goal

pub returns-in_default-clause-ok : goal.returns-in_default-clause-ok
returns-in_default-clause-ok t c =
    renamed-constant c.args.map.now c.args.space.now c.args.f c.requires.f (c.in_default.ensures.constant.0 refl) c.requires.within

pub returns-in-Some-recall-clause-ok : goal.returns-in-Some-recall-clause-ok
returns-in-Some-recall-clause-ok t c =
    c.requires.memo.answer (record { f = c.args.f; g = c.args.f; h = c.args.f }) c.in-Some-recall.r c.in-Some-recall.ensures

pub unreachable-requires : goal.unreachable-requires
unreachable-requires t c =
    let level = c.in-Some.ensures.level in
    let levels : List ℕ = sources c.args.map.now in
    true≢false (sym (sym (ap (is_in levels) level.1) ∙ top-in c.args.space.now levels c.args.f c.requires.f c.requires.covered level.0) ∙ c.in_default-target.ensures.none)

pub rename_below-requires : goal.rename_below-requires
rename_below-requires t c =
    let end = c.lo-f0.ensures.end in
    let level = c.in-Some.ensures.level in (
      omega (arith, end.below, level.1, level.2, c.decreases),
      (end.valid, (c.requires.rising, (end-depends c.args.space.now (sources c.args.map.now) c.args.f c.requires.f c.requires.covered false c.lo-f0.result end, (c.requires.within, c.requires.memo)))),
    )

pub rename_below-requires-2 : goal.rename_below-requires-2
rename_below-requires-2 t c =
    let end = c.hi-f1.ensures.end in
    let level = c.in-Some.ensures.level in
    let old : Table = c.args.space.now in
    let a : Table = c.rename_below.new.space in
    let f1 : ℕ = c.hi-f1.result in
    let grow = c.in_ok-lo.ensures.grows in
    let levels = c.in_ok-lo.ensures.levels in
    let top = grow.top levels f1 end.valid.held in
    let covered = depends-grows old a grow (sources c.args.map.now) f1 end.valid (end-depends old (sources c.args.map.now) c.args.f c.requires.f c.requires.covered true f1 end) in (
      omega (arith, end.below, level.1, level.2, levels, top, c.decreases),
      (valid-grows old a grow f1 end.valid, (c.requires.rising, (covered, (λ k d inside. let within = c.requires.within k d inside in omega (arith, within, levels), c.in_ok-lo.ensures.memo)))),
    )

pub mk-requires : goal.mk-requires
mk-requires t c =
    let at = renaming c.args.map.now c.args.space.now c.args.f c.in-Some.level c.in-Some-target.to c.requires.rising c.requires.within c.requires.f c.requires.covered c.in-Some.ensures.level.0 c.in-Some.ensures.level.1 c.in-Some-target.ensures.found in
    let step = renamed-both c.args.map.now at c.lo-f0.ensures.end c.hi-f1.ensures.end c.in_ok-lo.ensures.grows c.in_ok-lo.ensures.levels c.in_ok-hi.ensures.grows c.in_ok-hi.ensures.levels c.in_ok-lo.ensures.ok c.in_ok-hi.ensures.ok in
    record { lo = step.lo_valid; hi = step.hi_valid; lo_below = step.lo_below; hi_below = step.hi_below }

pub returns-clause-ok : goal.returns-clause-ok
returns-clause-ok t c =
    let at = renaming c.args.map.now c.args.space.now c.args.f c.in-Some.level c.in-Some-target.to c.requires.rising c.requires.within c.requires.f c.requires.covered c.in-Some.ensures.level.0 c.in-Some.ensures.level.1 c.in-Some-target.ensures.found in
    let step = renamed-both c.args.map.now at c.lo-f0.ensures.end c.hi-f1.ensures.end c.in_ok-lo.ensures.grows c.in_ok-lo.ensures.levels c.in_ok-hi.ensures.grows c.in_ok-hi.ensures.levels c.in_ok-lo.ensures.ok c.in_ok-hi.ensures.ok in
    renamed-step c.args.map.now step c.in_ok-r.ensures.ok

-- the answer is noted
noted-right : (pairs : List (ℕ × ℕ)) {t b new : Table} {old m : Memo} {f r : ℕ} → Grows t new → new.levels ≡ t.levels → Grows b new → new.levels ≡ b.levels → ((d : Choice) (s : ℕ) → IsNoted m d s → ((d ≡ record { f = f; g = f; h = f }) × (s ≡ r)) ⊎ IsNoted old d s) → IsRight (IsRenamed pairs) b old → IsValid t f → StandsBelow new (target_or t.levels pairs (top_of t f)) r (λ bits. value_at t f (renamed pairs bits)) → IsRight (IsRenamed pairs) new m
noted-right pairs {t} {b} {new} {old} {m} {f} {r} grow levels last last_levels noted right valid answer =
    let key : Choice = record { f = f; g = f; h = f } in
    let all : AreValid t key = record { f = valid; g = valid; h = valid } in
    right-later (IsRenamed pairs) b new last (IsRenamed-grows pairs b new last last_levels) old m key r noted right (choice-grows t new grow key all) (renamed-later pairs t new grow levels key r all answer)

pub returns-in_err-note-clause-memo : goal.returns-in_err-note-clause-memo
returns-in_err-note-clause-memo t c =
    let at = renaming c.args.map.now c.args.space.now c.args.f c.in-Some.level c.in-Some-target.to c.requires.rising c.requires.within c.requires.f c.requires.covered c.in-Some.ensures.level.0 c.in-Some.ensures.level.1 c.in-Some-target.ensures.found in
    let step = renamed-both c.args.map.now at c.lo-f0.ensures.end c.hi-f1.ensures.end c.in_ok-lo.ensures.grows c.in_ok-lo.ensures.levels c.in_ok-hi.ensures.grows c.in_ok-hi.ensures.levels c.in_ok-lo.ensures.ok c.in_ok-hi.ensures.ok in
    let grow = grows-trans _ _ _ c.in_ok-lo.ensures.grows (grows-trans _ _ _ c.in_ok-hi.ensures.grows c.in_ok-r.ensures.grows) in
    noted-right c.args.map.now {old = c.rename_below-2.new.memo} {m = c.note.new.self} grow (c.in_ok-r.ensures.levels ∙ c.in_ok-hi.ensures.levels ∙ c.in_ok-lo.ensures.levels) c.in_ok-r.ensures.grows c.in_ok-r.ensures.levels c.in_err-note.ensures.noted c.in_ok-hi.ensures.memo c.requires.f
    (renamed-step c.args.map.now step c.in_ok-r.ensures.ok)

pub returns-clause-memo : goal.returns-clause-memo
returns-clause-memo t c =
    let grow = grows-trans _ _ _ c.in_ok-lo.ensures.grows (grows-trans _ _ _ c.in_ok-hi.ensures.grows c.in_ok-r.ensures.grows) in
    noted-right c.args.map.now {old = c.rename_below-2.new.memo} {m = c.note.new.self} grow (c.in_ok-r.ensures.levels ∙ c.in_ok-hi.ensures.levels ∙ c.in_ok-lo.ensures.levels) c.in_ok-r.ensures.grows c.in_ok-r.ensures.levels c.in_ok-note.ensures.noted c.in_ok-hi.ensures.memo c.requires.f
    (returns-clause-ok t c)

pub returns-in_err-lo-clause-needed : goal.returns-in_err-lo-clause-needed
returns-in_err-lo-clause-needed t c full =
    let back = err_from_is_err_and c.from_residual.result c.from_residual.ensures.1 in
    let at = renaming c.args.map.now c.args.space.now c.args.f c.in-Some.level c.in-Some-target.to c.requires.rising c.requires.within c.requires.f c.requires.covered c.in-Some.ensures.level.0 c.in-Some.ensures.level.1 c.in-Some-target.ensures.found in
    renamed-missing c.rename_below.new.space c.args.map.now at c.lo-f0.ensures.end c.in_err-lo.ensures.levels (c.in_err-lo.ensures.needed (ap Err (sym back.2) ∙ sym back.1 ∙ full))

pub returns-in_err-hi-clause-needed : goal.returns-in_err-hi-clause-needed
returns-in_err-hi-clause-needed t c full =
    let back = err_from_is_err_and c.from_residual-in_err-hi.result c.from_residual-in_err-hi.ensures.1 in
    let at = renaming c.args.map.now c.args.space.now c.args.f c.in-Some.level c.in-Some-target.to c.requires.rising c.requires.within c.requires.f c.requires.covered c.in-Some.ensures.level.0 c.in-Some.ensures.level.1 c.in-Some-target.ensures.found in
    let b : Table = c.rename_below-2.new.space in
    let f1 : ℕ = c.hi-f1.result in
    renamed-missing b c.args.map.now at c.hi-f1.ensures.end (c.in_err-hi.ensures.levels ∙ c.in_ok-lo.ensures.levels)
    (missing-same b (λ bits. value_at c.rename_below.new.space f1 (renamed c.args.map.now bits)) (λ bits. value_at c.args.space.now f1 (renamed c.args.map.now bits)) (λ bits. c.in_ok-lo.ensures.grows.value f1 c.hi-f1.ensures.end.valid.held (renamed c.args.map.now bits))
    (c.in_err-hi.ensures.needed (ap Err (sym back.2) ∙ sym back.1 ∙ full)))

pub returns-in_err-r-clause-needed : goal.returns-in_err-r-clause-needed
returns-in_err-r-clause-needed t c full =
    let back = err_from_is_err_and c.from_residual-in_err-r.result c.from_residual-in_err-r.ensures.1 in
    let at = renaming c.args.map.now c.args.space.now c.args.f c.in-Some.level c.in-Some-target.to c.requires.rising c.requires.within c.requires.f c.requires.covered c.in-Some.ensures.level.0 c.in-Some.ensures.level.1 c.in-Some-target.ensures.found in
    let step = renamed-both c.args.map.now at c.lo-f0.ensures.end c.hi-f1.ensures.end c.in_ok-lo.ensures.grows c.in_ok-lo.ensures.levels c.in_ok-hi.ensures.grows c.in_ok-hi.ensures.levels c.in_ok-lo.ensures.ok c.in_ok-hi.ensures.ok in
    let b : Table = c.rename_below-2.new.space in
    let meaning : (ℕ → Bool) → Bool = λ bits. value_at c.args.space.now c.args.f (renamed c.args.map.now bits) in
    let P : Table → Type 0 = λ s. IsMissing s meaning in
    subst P (sym c.in_err-r.ensures.err)
    (missing-same b (λ bits. if bits c.in-Some-target.to then value_at b c.in_ok-hi.hi bits else value_at b c.in_ok-lo.lo bits) meaning step.node
    (refused-missing step.lo_valid step.hi_valid step.lo_below step.hi_below (c.in_err-r.ensures.full.0 (ap Err (sym back.2) ∙ sym back.1 ∙ full))))
