use Rattle.std.proofs.Common.{◌≡◌, ◌<◌, ◌+◌, ◌++◌, ◌∙◌, ℕ, length, drop, ap, subst, inl, inr, arith}
use Rattle.std.proofs.lemmas.Bool.{cases_lt}
use Rattle.mv_encoding.specs.declared.field.Field.{Field}
use Rattle.name_table.specs.CodeBits.{bits_in}
use Rattle.mv_encoding.specs.Fields.{field_at, fields_from, FitsIn}
use Rattle.mv_encoding.proofs.Places.{before-next, before-within, field-fits, fields-next}
use Rattle.mv_encoding.proofs.planning.fields_of.Goals as goal

pub loop-var-preserved : goal.loop-var-preserved
loop-var-preserved c =
    let known : c.loop-var.var < length c.args.scope.now = omega (arith, c.loop-var-test.true, c.len-var-end.ensures.len) in
    let next = before-next c.args.scope.now c.loop-var.var known in
    let within = before-within c.args.scope.now c.loop-var.var known in
    let field : Field = record { before = c.loop-var.before; bits = c.bits_at-bits.result; values = c.values_at-values.result } in
    record {
      before = omega (arith, next, c.bits_at-bits.ensures.bits, c.loop-var.invariant.before);
      few = omega (arith, within, c.requires, c.bits_at-bits.ensures.bits, c.loop-var.invariant.before);
      whole =
          ap (λ fields. fields ++ fields_from (c.loop-var.before + c.bits_at-bits.result) (drop (c.loop-var.var + 1) c.args.scope.now)) c.in_ok-push.ensures.items
          ∙ fields-next c.loop-var.fields.items c.args.scope.now c.loop-var.var c.loop-var.before field known (λ i. record { before = c.loop-var.before; bits = c.bits_at-bits.ensures.bits i; values = c.values_at-values.ensures.values i }) c.loop-var.invariant.whole;
      fit = λ var below.
          elim (cases_lt var c.loop-var.var) [
            | inl less ↦ c.loop-var.invariant.fit var less
            | inr more ↦
                let is : c.loop-var.var ≡ var = omega (arith, below, more) in
                let P : ℕ → Type 0 = λ v. FitsIn (bits_in c.args.scope.now) (field_at c.args.scope.now v) in
                subst P is (field-fits c.args.scope.now c.loop-var.var known (omega (arith, c.values_at-values.ensures.values, c.values_at-values.ensures.some)) (omega (arith, c.bits_at-bits.ensures.bits, c.bits_at-bits.ensures.few)))
          ];
    }
