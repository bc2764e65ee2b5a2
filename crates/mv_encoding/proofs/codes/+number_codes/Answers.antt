use Rattle.std.proofs.Common.{◌≡◌, ◌==◌, ◌∙◌, Err, sym, ap, arith}
use Rattle.std.proofs.lemmas.Result.{IfOk-weaker, err_from_is_err_and}
use Rattle.node_table.specs.Table.{Table, Makes}
use Rattle.bdd_ops.specs.Recursion.{StandsBelow}
use Rattle.mv_encoding.specs.Layouts.{number_at}
use Rattle.mv_encoding.proofs.Chains.{high-value, low-value, stands-made}
use Rattle.mv_encoding.proofs.Missing.{at-err, zero-held, node-missing, number-missing}
use Rattle.mv_encoding.proofs.codes.+number_codes.Goals as goal

pub returns-then-bit-clause-ok : goal.returns-then-bit-clause-ok
returns-then-bit-clause-ok t c =
    let new : Table = c.mk.new.self in
    IfOk-weaker c.mk.result (λ r. Makes c.number_codes.new.space new c.args.level c.zero-zero.result c.in_ok-below.below r) (λ r. StandsBelow new c.args.level r (λ b. number_at c.args.level c.args.bits b == c.args.number))
    (λ r made. stands-made (λ b. number_at c.args.level c.args.bits b == c.args.number) (high-value c.args.level c.args.bits c.args.number c.first_bit-bit.result.1 c.first_bit-bit.result.0 c.if-bit.true (omega arith) c.first_bit-bit.ensures.rest c.first_bit-bit.ensures.sum c.zero-zero.ensures c.in_ok-below.ensures.grows c.in_ok-below.ensures.ok) made)
    c.mk.ensures.ok

pub returns-else-bit-clause-ok : goal.returns-else-bit-clause-ok
returns-else-bit-clause-ok t c =
    let new : Table = c.mk-else-bit.new.self in
    IfOk-weaker c.mk-else-bit.result (λ r. Makes c.number_codes.new.space new c.args.level c.in_ok-below.below c.zero-zero.result r) (λ r. StandsBelow new c.args.level r (λ b. number_at c.args.level c.args.bits b == c.args.number))
    (λ r made. stands-made (λ b. number_at c.args.level c.args.bits b == c.args.number) (low-value c.args.level c.args.bits c.args.number c.first_bit-bit.result.1 c.first_bit-bit.result.0 c.if-bit.false (omega arith) c.first_bit-bit.ensures.rest c.first_bit-bit.ensures.sum c.zero-zero.ensures c.in_ok-below.ensures.grows c.in_ok-below.ensures.ok) made)
    c.mk-else-bit.ensures.ok

pub returns-in_err-below-clause-needed : goal.returns-in_err-below-clause-needed
returns-in_err-below-clause-needed t c full =
    let back = err_from_is_err_and c.from_residual.result c.from_residual.ensures.1 in
    number-missing c.number_codes.new.space c.args.level c.args.bits c.args.number c.first_bit-bit.result.1 c.first_bit-bit.result.0 (omega (arith, c.in_err-below.ensures.levels)) (omega arith) c.first_bit-bit.ensures.rest c.first_bit-bit.ensures.sum
    (c.in_err-below.ensures.needed (ap Err (sym back.2) ∙ sym back.1 ∙ full))

pub returns-then-bit-clause-needed : goal.returns-then-bit-clause-needed
returns-then-bit-clause-needed t c full =
    let a : Table = c.number_codes.new.space in
    let new : Table = c.mk.new.self in
    let low = zero-held c.args.level c.zero-zero.ensures c.in_ok-below.ensures.grows (omega (arith, c.in_ok-below.ensures.levels)) in
    node-missing (λ b. number_at c.args.level c.args.bits b == c.args.number) low (c.in_ok-below.ensures.ok.valid, omega (arith, c.in_ok-below.ensures.ok.top))
    (high-value c.args.level c.args.bits c.args.number c.first_bit-bit.result.1 c.first_bit-bit.result.0 c.if-bit.true (omega arith) c.first_bit-bit.ensures.rest c.first_bit-bit.ensures.sum c.zero-zero.ensures c.in_ok-below.ensures.grows c.in_ok-below.ensures.ok)
    (at-err c.mk.result _ (new ≡ a) full c.mk.ensures.err)
    (c.mk.ensures.full.0 full)

pub returns-else-bit-clause-needed : goal.returns-else-bit-clause-needed
returns-else-bit-clause-needed t c full =
    let a : Table = c.number_codes.new.space in
    let new : Table = c.mk-else-bit.new.self in
    let low = zero-held c.args.level c.zero-zero.ensures c.in_ok-below.ensures.grows (omega (arith, c.in_ok-below.ensures.levels)) in
    node-missing (λ b. number_at c.args.level c.args.bits b == c.args.number) (c.in_ok-below.ensures.ok.valid, omega (arith, c.in_ok-below.ensures.ok.top)) low
    (low-value c.args.level c.args.bits c.args.number c.first_bit-bit.result.1 c.first_bit-bit.result.0 c.if-bit.false (omega arith) c.first_bit-bit.ensures.rest c.first_bit-bit.ensures.sum c.zero-zero.ensures c.in_ok-below.ensures.grows c.in_ok-below.ensures.ok)
    (at-err c.mk-else-bit.result _ (new ≡ a) full c.mk-else-bit.ensures.err)
    (c.mk-else-bit.ensures.full.0 full)
