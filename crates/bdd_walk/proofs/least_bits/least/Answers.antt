use Rattle.std.proofs.Common.{◌≡◌, ◌<◌, ◌+◌, ℕ, true, false, List, Some, length, slice_index, sym, ◌∙◌, subst, arith}
use Rattle.std.proofs.lemmas.Bool.{eqb-true, eq-eqb, true≢false}
use Rattle.std.proofs.lemmas.Option.{slice_get-get_or}
use Rattle.node_table.specs.Table.{top_of}
use Rattle.bdd_walk.specs.Walk.{IsDown}
use Rattle.bdd_walk.proofs.Nodes.{has-ends}
use Rattle.bdd_walk.proofs.Down.{same-level, other-level, kept-zero, needs-one, down-start, down-end, down-past, down-last}
use Rattle.bdd_walk.proofs.least_bits.least.Goals as goal
use Rattle.bdd_walk.proofs.least_bits.least.Goals.{then-eq-2+then-eq-3, then-eq-2+else-eq-3, else-eq-2}

pub loop-place-init : goal.loop-place-init
loop-place-init c =
    down-start c.args.space.now c.args.f c.args.levels.now c.zero-code.result c.requires.valid
    (λ none. true≢false (sym (c.eq.ensures ∙ eq-eqb c.args.f c.zero-zero.result (none ∙ sym c.zero-zero.ensures.number)) ∙ c.if-eq.false))
    c.requires.levels
    c.zero-code.ensures

pub loop-place-preserved : goal.loop-place-preserved
loop-place-preserved c =
    let t = c.args.space.now in
    let levels : List ℕ = c.args.levels.now in
    let words : List ℕ = c.loop-place.code in
    let k : ℕ = c.loop-place.place in
    let r : ℕ = c.loop-place.below in
    let down : IsDown t c.args.f levels words k r = c.loop-place.invariant in
    let within : k < length levels = omega arith in
    let at : c.at.result ≡ Some (slice_index levels k) = c.at.ensures ∙ slice_get-get_or levels k 0 within in
    let Way : List ℕ → ℕ → Type 0 = λ next s. IsDown t c.args.f levels next (k + 1) s in
    let way = λ (next : List ℕ) (s : ℕ) (code_is : c.if-eq-2.code ≡ next) (below_is : c.if-eq-2.below ≡ s) (d : Way next s).
    subst (λ (w : List ℕ). Way w c.if-eq-2.below) (sym code_is) (subst (Way next) (sym below_is) d) in
    elim c.if-eq-2.branch [
      | then-eq-2+then-eq-3 w ↦
          let here = same-level (top_of t r) t.levels r (slice_index levels k) c.level.result c.at.result at c.level.ensures.level (sym c.eq-in-loop-place.ensures ∙ w.if-eq-2.true) in
          let none : w.lo-lo.result ≡ 0 = eqb-true w.lo-lo.result c.zero-zero.result (sym w.eq-then-eq-2.ensures ∙ w.if-eq-3.true) ∙ c.zero-zero.ensures.number in
          let ends = has-ends t r w.lo-lo.result w.hi-below.result down.valid here.0 w.lo-lo.ensures.node w.hi-below.ensures.node in
          way w.set.new.self w.hi-below.result w.code-is w.below-is
          (down-end t c.args.f levels words w.set.new.self k r true w.hi-below.result down here.0 here.1 w.hi-below.ensures.end
          (λ also. ends.differ (none ∙ sym also))
          w.set.ensures
          (λ v one yes'. needs-one t r (slice_index levels k) w.lo-lo.result here.1 w.lo-lo.ensures.end none v one))
      | then-eq-2+else-eq-3 w ↦
          let here = same-level (top_of t r) t.levels r (slice_index levels k) c.level.result c.at.result at c.level.ensures.level (sym c.eq-in-loop-place.ensures ∙ w.if-eq-2.true) in
          way words w.lo-lo.result w.code-is w.below-is
          (down-end t c.args.f levels words words k r false w.lo-lo.result down here.0 here.1 w.lo-lo.ensures.end
          (λ none. true≢false (sym (w.eq-then-eq-2.ensures ∙ eq-eqb w.lo-lo.result c.zero-zero.result (none ∙ sym c.zero-zero.ensures.number)) ∙ w.if-eq-3.false))
          (kept-zero words k down.rest)
          (λ v one wrong. absurd (true≢false (sym wrong))))
      | else-eq-2 w ↦
          way words r w.code-is w.below-is
          (down-past t c.args.f levels c.len-place-end.ensures.rises words k r down within
          (other-level (top_of t r) t.levels r (slice_index levels k) c.level.result c.at.result at c.level.ensures.constant c.level.ensures.level (sym c.eq-in-loop-place.ensures ∙ w.if-eq-2.false)))
    ]

pub returns-clause-least : goal.returns-clause-least
returns-clause-least c =
    down-last c.args.space.now c.args.f c.args.levels.now c.len-place-end.ensures.rises c.loop-place.code c.loop-place.place c.loop-place.below c.loop-place.invariant (omega arith)
