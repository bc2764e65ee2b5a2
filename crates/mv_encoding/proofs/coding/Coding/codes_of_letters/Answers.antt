use Rattle.std.proofs.Common.{◌≡◌, ◌<◌, ◌≤◌, ◌+◌, ◌-◌, ◌&&◌, ◌∙◌, ℕ, Err, length, sym, ap, subst, arith}
use Rattle.std.specs.Prelude.{nat_lt}
use Rattle.std.proofs.lemmas.Result.{err_from_is_err_and}
use Rattle.node_table.specs.Table.{Table, value_at}
use Rattle.node_table.proofs.Growth.{grows-trans}
use Rattle.bdd_ops.proofs.Missing.{missing-same}
use Rattle.mv_encoding.specs.declared.field.Field.{Field}
use Rattle.mv_encoding.specs.Layouts.{Layout, number_at}
use Rattle.mv_encoding.specs.Fields.{level_of, is_letter_from, AllFit}
use Rattle.mv_encoding.proofs.Letters.{valid-value, valid-next}
use Rattle.mv_encoding.proofs.Missing.{letters-missing}
use Rattle.mv_encoding.proofs.Places.{before-prev}
use Rattle.mv_encoding.proofs.coding.Coding.codes_of_letters.Goals as goal

pub codes_below-requires-clause-below : goal.codes_below-requires-clause-below
codes_below-requires-clause-below c =
    let first = ap (λ l. l.first) c.self.view_is in
    let view = ap (λ l. length l.scope) c.self.view_is in
    let before = ap (λ f. f.before) c.field-field.ensures.is in
    let bits = ap (λ f. f.bits) c.field-field.ensures.is in
    let end : c.loop-var.var ≤ length c.args.self.now.scope = omega (arith, view, c.len-var.ensures.len, c.loop-var.auto.var) in
    let prev = before-prev c.args.self.now.scope c.loop-var.var c.loop-var-test.true end in
    omega (arith, first, before, bits, prev, c.loop-var.invariant.stands.top)

pub loop-var-preserved : goal.loop-var-preserved
loop-var-preserved c =
    let view = ap (λ l. length l.scope) c.self.view_is in
    let var : ℕ = c.loop-var.var - 1 in
    let known : var < length c.args.self.now.scope = omega (arith, view, c.len-var.ensures.len, c.loop-var.auto.var, c.loop-var-test.true) in
    let next : c.loop-var.var ≡ var + 1 = omega (arith, c.loop-var-test.true) in
    let level : c.self.inside.first + c.field-field.result.before ≡ level_of c.args.self.now var = λ i. (c.self.view_is i).first + (c.field-field.ensures.is i).before in
    record {
      stands = valid-next c.args.self.now var c.loop-var.var (c.self.inside.first + c.field-field.result.before) c.field-field.result known next level c.field-field.ensures.is c.loop-var.invariant.stands c.in_ok-codes.ensures.ok;
      grows = grows-trans _ _ _ c.loop-var.invariant.grows c.in_ok-codes.ensures.grows;
      levels = c.in_ok-codes.ensures.levels ∙ c.loop-var.invariant.levels;
    }

pub returns-in_err-codes-clause-needed : goal.returns-in_err-codes-clause-needed
returns-in_err-codes-clause-needed c full =
    let back = err_from_is_err_and c.from_residual.result c.from_residual.ensures.1 in
    let new : Table = c.codes_below.new.space in
    let field : Field = c.field-field.result in
    let first : ℕ = c.self.inside.first + field.before in
    let view = ap (λ l. length l.scope) c.self.view_is in
    let var : ℕ = c.loop-var.var - 1 in
    let known : var < length c.args.self.now.scope = omega (arith, view, c.len-var.ensures.len, c.loop-var.auto.var, c.loop-var-test.true) in
    let next : c.loop-var.var ≡ var + 1 = omega (arith, c.loop-var-test.true) in
    let level : first ≡ level_of c.args.self.now var = λ i. (c.self.view_is i).first + (c.field-field.ensures.is i).before in
    let P : Layout → Type 0 = λ l. AllFit l.scope in
    let fit = subst P c.self.view_is c.self.invariant.all_fit in
    letters-missing new c.args.self.now (omega (arith, c.requires, c.in_err-codes.ensures.levels, c.loop-var.invariant.levels)) (λ k within. (fit k within).some) var (omega (arith, known))
    (missing-same new (λ b. nat_lt (number_at first field.bits b) field.values && value_at c.loop-var.space c.loop-var.codes b) (is_letter_from c.args.self.now var)
    (valid-value c.args.self.now var c.loop-var.var first field known next level c.field-field.ensures.is c.loop-var.invariant.stands)
    (c.in_err-codes.ensures.needed (ap Err (sym back.2) ∙ sym back.1 ∙ full)))
