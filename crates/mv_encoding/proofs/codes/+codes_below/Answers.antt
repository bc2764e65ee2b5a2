use Rattle.std.proofs.Common.{◌≡◌, ◌&&◌, ◌+◌, ◌-◌, ◌∙◌, Err, sym, ap, arith, subst, ℕ}
use Rattle.std.specs.Prelude.{nat_lt}
use Rattle.std.proofs.lemmas.Result.{IfOk-weaker, err_from_is_err_and}
use Rattle.node_table.specs.Table.{Table, Makes, value_at}
use Rattle.node_table.proofs.Growth.{valid-grows}
use Rattle.bdd_ops.specs.Meaning.{IsMissing}
use Rattle.bdd_ops.specs.Recursion.{StandsBelow}
use Rattle.mv_encoding.specs.Layouts.{number_at}
use Rattle.mv_encoding.proofs.Chains.{two-halves, half-value, more-value, stands-made}
use Rattle.mv_encoding.proofs.Missing.{at-err, zero-held, node-missing, half-missing, more-missing}
use Rattle.mv_encoding.proofs.codes.+codes_below.Goals as goal

pub codes_below-requires-else-end-half : goal.codes_below-requires-else-end-half
codes_below-requires-else-end-half t c =
    let half = two-halves c.args.bits (omega arith) in (
      omega arith,
      (omega arith, (omega (arith, c.weight-half.ensures), (omega (arith, c.weight-half.ensures, half), (omega arith, (c.requires.rest, omega arith))))),
    )

pub returns-in_ok-below-clause-ok : goal.returns-in_ok-below-clause-ok
returns-in_ok-below-clause-ok t c =
    let new : Table = c.mk.new.self in
    IfOk-weaker c.mk.result (λ r. Makes c.codes_below.new.space new c.args.level c.in_ok-below.below c.zero-zero.result r) (λ r. StandsBelow new c.args.level r (λ b. nat_lt (number_at c.args.level c.args.bits b) c.args.end && value_at c.args.space.now c.args.rest b))
    (λ r made. stands-made (λ b. nat_lt (number_at c.args.level c.args.bits b) c.args.end && value_at c.args.space.now c.args.rest b) (half-value c.args.level c.args.bits c.args.end c.args.rest (omega arith) (omega (arith, c.weight-half.ensures)) c.zero-zero.ensures c.in_ok-below.ensures.grows c.in_ok-below.ensures.ok) made)
    c.mk.ensures.ok

pub returns-in_ok-below-2-clause-ok : goal.returns-in_ok-below-2-clause-ok
returns-in_ok-below-2-clause-ok t c =
    let new : Table = c.mk-else-end-half.new.self in
    let a : Table = c.codes_below-else-end-half.new.space in
    let level : ℕ = c.args.level in
    let P : ℕ → Type 0 = λ half. StandsBelow a (level + 1) c.in_ok-below-2.below (λ b. nat_lt (number_at (level + 1) (c.args.bits - 1) b) (c.args.end - half) && value_at c.args.space.now c.args.rest b) in
    let stands = subst P c.weight-half.ensures c.in_ok-below-2.ensures.ok in
    IfOk-weaker c.mk-else-end-half.result (λ r. Makes a new level c.args.rest c.in_ok-below-2.below r) (λ r. StandsBelow new level r (λ b. nat_lt (number_at level c.args.bits b) c.args.end && value_at c.args.space.now c.args.rest b))
    (λ r made. stands-made (λ b. nat_lt (number_at level c.args.bits b) c.args.end && value_at c.args.space.now c.args.rest b) (more-value level c.args.bits c.args.end c.args.rest (omega arith) (omega (arith, c.weight-half.ensures)) c.requires.rest c.in_ok-below-2.ensures.grows stands) made)
    c.mk-else-end-half.ensures.ok

pub returns-in_err-below-clause-needed : goal.returns-in_err-below-clause-needed
returns-in_err-below-clause-needed t c full =
    let back = err_from_is_err_and c.from_residual.result c.from_residual.ensures.1 in
    half-missing c.codes_below.new.space c.args.space.now c.args.level c.args.bits c.args.end c.args.rest c.requires.rest c.requires.below (omega (arith, c.in_err-below.ensures.levels)) (omega arith) (omega (arith, c.weight-half.ensures))
    (c.in_err-below.ensures.needed (ap Err (sym back.2) ∙ sym back.1 ∙ full))

pub returns-in_err-below-2-clause-needed : goal.returns-in_err-below-2-clause-needed
returns-in_err-below-2-clause-needed t c full =
    let back = err_from_is_err_and c.from_residual-in_err-below-2.result c.from_residual-in_err-below-2.ensures.1 in
    let s : Table = c.codes_below-else-end-half.new.space in
    let level : ℕ = c.args.level in
    let P : ℕ → Type 0 = λ half. IsMissing s (λ b. nat_lt (number_at (level + 1) (c.args.bits - 1) b) (c.args.end - half) && value_at c.args.space.now c.args.rest b) in
    more-missing s c.args.space.now level c.args.bits c.args.end c.args.rest c.requires.rest c.requires.below (omega (arith, c.in_err-below-2.ensures.levels)) (omega arith) (omega (arith, c.weight-half.ensures))
    (subst P c.weight-half.ensures (c.in_err-below-2.ensures.needed (ap Err (sym back.2) ∙ sym back.1 ∙ full)))

pub returns-in_ok-below-clause-needed : goal.returns-in_ok-below-clause-needed
returns-in_ok-below-clause-needed t c full =
    let a : Table = c.codes_below.new.space in
    let new : Table = c.mk.new.self in
    let low = zero-held c.args.level c.zero-zero.ensures c.in_ok-below.ensures.grows (omega (arith, c.in_ok-below.ensures.levels)) in
    node-missing (λ b. nat_lt (number_at c.args.level c.args.bits b) c.args.end && value_at c.args.space.now c.args.rest b) (c.in_ok-below.ensures.ok.valid, omega (arith, c.in_ok-below.ensures.ok.top)) low
    (half-value c.args.level c.args.bits c.args.end c.args.rest (omega arith) (omega (arith, c.weight-half.ensures)) c.zero-zero.ensures c.in_ok-below.ensures.grows c.in_ok-below.ensures.ok)
    (at-err c.mk.result _ (new ≡ a) full c.mk.ensures.err)
    (c.mk.ensures.full.0 full)

pub returns-in_ok-below-2-clause-needed : goal.returns-in_ok-below-2-clause-needed
returns-in_ok-below-2-clause-needed t c full =
    let new : Table = c.mk-else-end-half.new.self in
    let a : Table = c.codes_below-else-end-half.new.space in
    let level : ℕ = c.args.level in
    let P : ℕ → Type 0 = λ half. StandsBelow a (level + 1) c.in_ok-below-2.below (λ b. nat_lt (number_at (level + 1) (c.args.bits - 1) b) (c.args.end - half) && value_at c.args.space.now c.args.rest b) in
    let stands = subst P c.weight-half.ensures c.in_ok-below-2.ensures.ok in
    let top = c.in_ok-below-2.ensures.grows.top c.in_ok-below-2.ensures.levels c.args.rest c.requires.rest.held in
    node-missing (λ b. nat_lt (number_at level c.args.bits b) c.args.end && value_at c.args.space.now c.args.rest b) (valid-grows c.args.space.now a c.in_ok-below-2.ensures.grows c.args.rest c.requires.rest, omega (arith, top, c.requires.below)) (stands.valid, omega (arith, stands.top))
    (more-value level c.args.bits c.args.end c.args.rest (omega arith) (omega (arith, c.weight-half.ensures)) c.requires.rest c.in_ok-below-2.ensures.grows stands)
    (at-err c.mk-else-end-half.result _ (new ≡ a) full c.mk-else-end-half.ensures.err)
    (c.mk-else-end-half.ensures.full.0 full)
