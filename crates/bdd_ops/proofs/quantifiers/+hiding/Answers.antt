use Rattle.std.proofs.Common.{◌≡◌, ◌<◌, ◌≤◌, ◌∙◌, ◌⊎◌, ℕ, List, true, false, if◌then◌else◌, Result, Err, OnErr, sym, ap, subst, arith}
use Rattle.std.proofs.lemmas.Bool.{true≢false, false_from_ne_true, eqb-true}
use Rattle.std.proofs.lemmas.Result.{IfOk-weaker, err_from_is_err_and}
use Rattle.node_table.specs.declared.space.MkFault.{MkFault}
use Rattle.node_table.specs.Table.{Table, Grows, Makes, IsRefused, value_at, top_of}
use Rattle.node_table.proofs.Growth.{grows-trans}
use Rattle.node_table.proofs.Nodes.{level-constant}
use Rattle.bdd_ops.specs.declared.choice.Choice.{Choice}
use Rattle.bdd_ops.specs.declared.memo.Memo.{Memo}
use Rattle.bdd_ops.specs.Levels.{is_in}
use Rattle.bdd_ops.specs.Meaning.{IsMissing, IsShort}
use Rattle.bdd_ops.specs.Recursion.{AreValid, AreCofactors, low_of, ite_value, StandsBelow, HidesBelow, IsNoted, IsRight, IsIte, IsHidden}
use Rattle.bdd_ops.proofs.Choices.{choice-grows, ite-grows, low-grows, IsIte-grows}
use Rattle.bdd_ops.proofs.Memos.{right-grows, right-noted}
use Rattle.bdd_ops.proofs.Hiding.{ite-free, above-hides, hides-same, hides-grows, hides-later, IsHidden-grows, kept-found, kept-holds, kept-step, gone-found, gone-has, gone-step, gone-one}
use Rattle.bdd_ops.proofs.Missing.{refused-missing}
use Rattle.bdd_ops.proofs.Short.{short-same, missing-short, above-short, ite-short}
use Rattle.bdd_ops.proofs.quantifiers.+hiding.Goals as goal

module _ {t a : Table} {levels : List ℕ} {c c0 c1 : Choice} {level lo : ℕ} (is : level ≡ low_of t c) (exists : level < t.levels) (zeroes : AreCofactors t level false c c0) (ones : AreCofactors t level true c c1) (first : Grows t a) (first_levels : a.levels ≡ t.levels) (low : HidesBelow a (low_of t c0) lo levels (ite_value t c0)) where
  one-first : is_in levels level ≡ true → lo ≡ 1 → HidesBelow a (low_of t c) lo levels (ite_value t c)
  one-first member one =
      let P : ℕ → Type 0 = λ l. HidesBelow a l lo levels (ite_value t c) in
      subst P is
      (gone-one levels level (ite_value t c) (ite_value t c0) (ite_value t c1) zeroes.value ones.value member (ite-free t c0 zeroes.valid level zeroes.below) (ite-free t c1 ones.valid level ones.below)
      a lo (low_of t c0) low (omega (arith, zeroes.below)) one)

  module _ {b : Table} {hi : ℕ} (second : Grows a b) (second_levels : b.levels ≡ a.levels) (high : HidesBelow b (low_of a c1) hi levels (ite_value a c1)) where
    low_later : HidesBelow b (low_of t c0) lo levels (ite_value t c0)
    low_later = hides-grows levels a b second second_levels (low_of t c0) lo (ite_value t c0) low

    high_same : HidesBelow b (low_of a c1) hi levels (ite_value t c1)
    high_same = hides-same levels b (low_of a c1) hi (ite_value a c1) (ite_value t c1) (ite-grows t a first c1 ones.valid) high

    kept : is_in levels level ≡ false → {new : Table} {r : ℕ} → Makes b new level lo hi r → HidesBelow new (low_of t c) r levels (ite_value t c)
    kept out {new} {r} made =
        let P : ℕ → Type 0 = λ l. HidesBelow new l r levels (ite_value t c) in
        subst P is
        (kept-step levels level (ite_value t c) (ite_value t c0) (ite_value t c1) zeroes.value ones.value out b lo hi (low_of t c0) (low_of a c1) low_later high_same new r made)

    -- the node was refused
    kept-short : is_in levels level ≡ false → {new : Table} → new ≡ b → IsRefused b (record { level = level; lo = lo; hi = hi }) → IsShort new levels (ite_value t c)
    kept-short out {new} same refused =
        let P : Table → Type 0 = λ s. IsShort s levels (ite_value t c) in
        let below : low_of a c1 ≡ low_of t c1 = low-grows t a first first_levels c1 ones.valid in
        subst P (sym same)
        (missing-short b levels (ite_value t c) (λ bits. if bits level then value_at b hi bits else value_at b lo bits)
        (kept-found levels level (ite_value t c) (ite_value t c0) (ite_value t c1) zeroes.value ones.value out b lo hi (low_of t c0) (low_of a c1) low_later high_same)
        (kept-holds levels level (ite_value t c) (ite_value t c0) (ite_value t c1) zeroes.value ones.value out b lo hi (low_of t c0) (low_of a c1) low_later high_same)
        (refused-missing low_later.valid high_same.valid (omega (arith, low_later.top, zeroes.below)) (omega (arith, high_same.top, below, ones.below)) refused))

    -- the disjunction was refused
    gone-short : is_in levels level ≡ true → {new : Table} {one : ℕ} → one ≡ 1 → IsMissing new (λ bits. ite_value b (record { f = lo; g = one; h = hi }) bits) → IsShort new levels (ite_value t c)
    gone-short member {new} {one} one_is missing =
        missing-short new levels (ite_value t c) (ite_value b (record { f = lo; g = one; h = hi }))
        (gone-found levels level (ite_value t c) (ite_value t c0) (ite_value t c1) zeroes.value ones.value member (ite-free t c0 zeroes.valid level zeroes.below) (ite-free t c1 ones.valid level ones.below) b lo hi one (low_of t c0) (low_of a c1) low_later high_same one_is)
        (gone-has levels level (ite_value t c) (ite_value t c0) (ite_value t c1) zeroes.value ones.value member (ite-free t c0 zeroes.valid level zeroes.below) (ite-free t c1 ones.valid level ones.below) b lo hi one (low_of t c0) (low_of a c1) low_later high_same one_is)
        missing

    gone : is_in levels level ≡ true → {new : Table} {one r : ℕ} → one ≡ 1 → StandsBelow new (low_of b (record { f = lo; g = one; h = hi })) r (ite_value b (record { f = lo; g = one; h = hi })) → HidesBelow new (low_of t c) r levels (ite_value t c)
    gone member {new} {one} {r} one_is either =
        let P : ℕ → Type 0 = λ l. HidesBelow new l r levels (ite_value t c) in
        let bottom : top_of b one ≡ b.levels = level-constant b.levels b.nodes one (omega (arith, one_is)) in
        let same : low_of a c1 ≡ low_of t c1 = low-grows t a first first_levels c1 ones.valid in
        let under : level ≤ low_of b (record { f = lo; g = one; h = hi }) = omega (arith, bottom, same, exists, zeroes.below, ones.below, low_later.top, high_same.top, first_levels, second_levels) in
        subst P is
        (gone-step levels level (ite_value t c) (ite_value t c0) (ite_value t c1) zeroes.value ones.value member (ite-free t c0 zeroes.valid level zeroes.below) (ite-free t c1 ones.valid level ones.below)
        b lo hi one (low_of t c0) (low_of a c1) low_later high_same one_is new r (low_of b (record { f = lo; g = one; h = hi })) under either)

pub hide_at-returns-then-eq-clause-ok : goal.hide_at-returns-then-eq-clause-ok
hide_at-returns-then-eq-clause-ok t c =
    one-first c.requires.topmost c.requires.exists c.cofactors-c0.ensures c.cofactors-c1.ensures c.in_ok-lo.ensures.grows c.in_ok-lo.ensures.levels c.in_ok-lo.ensures.ok
    (sym c.if-contains.ensures) (eqb-true c.in_ok-lo.lo c.one-one.result (sym c.if-eq.ensures) ∙ c.one-one.ensures.number)

pub hide_at-returns-in_ok-hi-clause-ok : goal.hide_at-returns-in_ok-hi-clause-ok
hide_at-returns-in_ok-hi-clause-ok t c =
    let new = c.ite_below.new.space in
    let either : Choice = record { f = c.in_ok-lo.lo; g = c.one-one.result; h = c.in_ok-hi.hi } in
    IfOk-weaker c.ite_below.result (λ r. StandsBelow new (low_of c.hide_below-then-contains.new.space either) r (ite_value c.hide_below-then-contains.new.space either)) (λ r. HidesBelow new (low_of c.args.space.now c.args.c.now) r c.args.levels.now (ite_value c.args.space.now c.args.c.now))
    (λ r answer. gone c.requires.topmost c.requires.exists c.cofactors-c0.ensures c.cofactors-c1.ensures c.in_ok-lo.ensures.grows c.in_ok-lo.ensures.levels c.in_ok-lo.ensures.ok
    c.in_ok-hi.ensures.grows c.in_ok-hi.ensures.levels c.in_ok-hi.ensures.ok (sym c.if-contains.ensures) c.one-one.ensures.number answer)
    c.ite_below.ensures.ok

pub hide_at-returns-in_ok-hi-clause-grows : goal.hide_at-returns-in_ok-hi-clause-grows
hide_at-returns-in_ok-hi-clause-grows t c = grows-trans _ _ _ c.in_ok-lo.ensures.grows (grows-trans _ _ _ c.in_ok-hi.ensures.grows c.ite_below.ensures.grows)

pub hide_at-returns-in_ok-hi-clause-hidden : goal.hide_at-returns-in_ok-hi-clause-hidden
hide_at-returns-in_ok-hi-clause-hidden t c =
    right-grows (IsHidden c.args.levels.now) _ _ c.ite_below.ensures.grows (IsHidden-grows c.args.levels.now _ _ c.ite_below.ensures.grows c.ite_below.ensures.levels) _ c.in_ok-hi.ensures.hidden

pub hide_at-returns-in_ok-hi-2-clause-ok : goal.hide_at-returns-in_ok-hi-2-clause-ok
hide_at-returns-in_ok-hi-2-clause-ok t c =
    let new = c.mk.new.self in
    IfOk-weaker c.mk.result (λ r. Makes c.hide_below-else-contains.new.space new c.args.level c.in_ok-lo.lo c.in_ok-hi-2.hi r) (λ r. HidesBelow new (low_of c.args.space.now c.args.c.now) r c.args.levels.now (ite_value c.args.space.now c.args.c.now))
    (λ r made. kept c.requires.topmost c.requires.exists c.cofactors-c0.ensures c.cofactors-c1.ensures c.in_ok-lo.ensures.grows c.in_ok-lo.ensures.levels c.in_ok-lo.ensures.ok
    c.in_ok-hi-2.ensures.grows c.in_ok-hi-2.ensures.levels c.in_ok-hi-2.ensures.ok (sym c.if-contains.ensures) made)
    c.mk.ensures.ok

pub hide_at-returns-in_ok-hi-2-clause-grows : goal.hide_at-returns-in_ok-hi-2-clause-grows
hide_at-returns-in_ok-hi-2-clause-grows t c = grows-trans _ _ _ c.in_ok-lo.ensures.grows (grows-trans _ _ _ c.in_ok-hi-2.ensures.grows c.mk.ensures.grows)

pub hide_at-returns-in_ok-hi-2-clause-ites : goal.hide_at-returns-in_ok-hi-2-clause-ites
hide_at-returns-in_ok-hi-2-clause-ites t c =
    right-grows IsIte _ _ c.mk.ensures.grows (IsIte-grows _ _ c.mk.ensures.grows c.mk.ensures.levels) _ c.in_ok-hi-2.ensures.ites

pub hide_at-returns-in_ok-hi-2-clause-hidden : goal.hide_at-returns-in_ok-hi-2-clause-hidden
hide_at-returns-in_ok-hi-2-clause-hidden t c =
    right-grows (IsHidden c.args.levels.now) _ _ c.mk.ensures.grows (IsHidden-grows c.args.levels.now _ _ c.mk.ensures.grows c.mk.ensures.levels) _ c.in_ok-hi-2.ensures.hidden

pub hide_below-returns-in-Some-clause-ok : goal.hide_below-returns-in-Some-clause-ok
hide_below-returns-in-Some-clause-ok t c = c.in-Some.ensures.some c.args.levels.now

pub hide_below-returns-then-not-reaches-clause-ok :
    goal.hide_below-returns-then-not-reaches-clause-ok
hide_below-returns-then-not-reaches-clause-ok t c =
    let new = c.ite_below.new.space in
    let old = c.args.space.now in
    IfOk-weaker c.ite_below.result (λ r. StandsBelow new (low_of old c.args.c.now) r (ite_value old c.args.c.now)) (λ r. HidesBelow new (low_of old c.args.c.now) r c.args.levels.now (ite_value old c.args.c.now))
    (λ r answer. above-hides c.args.levels.now new (low_of old c.args.c.now) r (ite_value old c.args.c.now)
    (λ k low. false_from_ne_true (is_in c.args.levels.now k) (λ member.
    let floor : c.low-level.result ≤ k = omega (arith, low, c.low-level.ensures) in
    true≢false (sym (c.reaches.ensures.1 (k, member, floor)) ∙ c.if-not-reaches.true)))
    answer)
    c.ite_below.ensures.ok

pub hide_below-returns-then-not-reaches-clause-hidden :
    goal.hide_below-returns-then-not-reaches-clause-hidden
hide_below-returns-then-not-reaches-clause-hidden t c =
    right-grows (IsHidden c.args.levels.now) _ _ c.ite_below.ensures.grows (IsHidden-grows c.args.levels.now _ _ c.ite_below.ensures.grows c.ite_below.ensures.levels) _ c.requires.hidden

pub hide_below-returns-in-Some-recall-clause-ok : goal.hide_below-returns-in-Some-recall-clause-ok
hide_below-returns-in-Some-recall-clause-ok t c = c.requires.hidden.answer c.args.c.now c.in-Some-recall.r c.in-Some-recall.ensures

-- the answer is noted in the Space `b`
noted-right : (levels : List ℕ) {t b : Table} {old m : Memo} {c : Choice} {r : ℕ} → Grows t b → b.levels ≡ t.levels → ((d : Choice) (s : ℕ) → IsNoted m d s → ((d ≡ c) × (s ≡ r)) ⊎ IsNoted old d s) → IsRight (IsHidden levels) b old → AreValid t c → HidesBelow b (low_of t c) r levels (ite_value t c) → IsRight (IsHidden levels) b m
noted-right levels {t} {b} {old} {m} {c} {r} grow same noted right valid answer =
    right-noted (IsHidden levels) b old m c r noted right (choice-grows t b grow c valid) (hides-later levels t b grow same c r valid answer)

pub hide_below-returns-in_err-note-clause-hidden : goal.hide_below-returns-in_err-note-clause-hidden
hide_below-returns-in_err-note-clause-hidden t c =
    noted-right c.args.levels.now {old = c.hide_at.new.hidden} {m = c.note.new.self} c.in_ok-r.ensures.grows c.in_ok-r.ensures.levels c.in_err-note.ensures.noted c.in_ok-r.ensures.hidden c.requires.choice c.in_ok-r.ensures.ok

pub hide_below-returns-clause-hidden : goal.hide_below-returns-clause-hidden
hide_below-returns-clause-hidden t c =
    noted-right c.args.levels.now {old = c.hide_at.new.hidden} {m = c.note.new.self} c.in_ok-r.ensures.grows c.in_ok-r.ensures.levels c.in_ok-note.ensures.noted c.in_ok-r.ensures.hidden c.requires.choice c.in_ok-r.ensures.ok

pub hide_at-returns-in_err-lo-clause-needed : goal.hide_at-returns-in_err-lo-clause-needed
hide_at-returns-in_err-lo-clause-needed t c full =
    let back = err_from_is_err_and c.from_residual.result c.from_residual.ensures.1 in
    ite-short c.hide_below.new.space c.args.levels.now c.cofactors-c0.ensures (c.in_err-lo.ensures.needed (ap Err (sym back.2) ∙ sym back.1 ∙ full))

pub hide_at-returns-in_err-hi-clause-needed : goal.hide_at-returns-in_err-hi-clause-needed
hide_at-returns-in_err-hi-clause-needed t c full =
    let back = err_from_is_err_and c.from_residual-in_err-hi.result c.from_residual-in_err-hi.ensures.1 in
    let a : Table = c.hide_below.new.space in
    let new : Table = c.hide_below-then-contains.new.space in
    ite-short new c.args.levels.now c.cofactors-c1.ensures
    (short-same new c.args.levels.now (ite_value a c.cofactors-c1.result) (ite_value c.args.space.now c.cofactors-c1.result) (ite-grows c.args.space.now a c.in_ok-lo.ensures.grows c.cofactors-c1.result c.cofactors-c1.ensures.valid)
    (c.in_err-hi.ensures.needed (ap Err (sym back.2) ∙ sym back.1 ∙ full)))

pub hide_at-returns-in_err-hi-2-clause-needed : goal.hide_at-returns-in_err-hi-2-clause-needed
hide_at-returns-in_err-hi-2-clause-needed t c full =
    let back = err_from_is_err_and c.from_residual-in_err-hi-2.result c.from_residual-in_err-hi-2.ensures.1 in
    let a : Table = c.hide_below.new.space in
    let new : Table = c.hide_below-else-contains.new.space in
    ite-short new c.args.levels.now c.cofactors-c1.ensures
    (short-same new c.args.levels.now (ite_value a c.cofactors-c1.result) (ite_value c.args.space.now c.cofactors-c1.result) (ite-grows c.args.space.now a c.in_ok-lo.ensures.grows c.cofactors-c1.result c.cofactors-c1.ensures.valid)
    (c.in_err-hi-2.ensures.needed (ap Err (sym back.2) ∙ sym back.1 ∙ full)))

pub hide_at-returns-in_ok-hi-clause-needed : goal.hide_at-returns-in_ok-hi-clause-needed
hide_at-returns-in_ok-hi-clause-needed t c full =
    gone-short c.requires.topmost c.requires.exists c.cofactors-c0.ensures c.cofactors-c1.ensures c.in_ok-lo.ensures.grows c.in_ok-lo.ensures.levels c.in_ok-lo.ensures.ok
    c.in_ok-hi.ensures.grows c.in_ok-hi.ensures.levels c.in_ok-hi.ensures.ok (sym c.if-contains.ensures) c.one-one.ensures.number (c.ite_below.ensures.needed full)

pub hide_at-returns-in_ok-hi-2-clause-needed : goal.hide_at-returns-in_ok-hi-2-clause-needed
hide_at-returns-in_ok-hi-2-clause-needed t c full =
    let b : Table = c.hide_below-else-contains.new.space in
    let new : Table = c.mk.new.self in
    let P : Result ℕ MkFault → Type 0 = λ r. OnErr r (new ≡ b) in
    kept-short c.requires.topmost c.requires.exists c.cofactors-c0.ensures c.cofactors-c1.ensures c.in_ok-lo.ensures.grows c.in_ok-lo.ensures.levels c.in_ok-lo.ensures.ok
    c.in_ok-hi-2.ensures.grows c.in_ok-hi-2.ensures.levels c.in_ok-hi-2.ensures.ok (sym c.if-contains.ensures) (subst P full c.mk.ensures.err) (c.mk.ensures.full.0 full)

pub hide_below-returns-then-not-reaches-clause-needed : goal.hide_below-returns-then-not-reaches-clause-needed
hide_below-returns-then-not-reaches-clause-needed t c full =
    above-short c.ite_below.new.space c.args.levels.now c.args.space.now c.args.c.now c.requires.choice
    (λ k low. false_from_ne_true (is_in c.args.levels.now k) (λ member.
    let floor : c.low-level.result ≤ k = omega (arith, low, c.low-level.ensures) in
    true≢false (sym (c.reaches.ensures.1 (k, member, floor)) ∙ c.if-not-reaches.true)))
    (c.ite_below.ensures.needed full)
