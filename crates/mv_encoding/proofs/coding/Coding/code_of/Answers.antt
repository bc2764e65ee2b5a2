use Rattle.std.proofs.Common.{◌≡◌, ◌<◌, ◌≤◌, ◌+◌, ◌⊎◌, ◌∙◌, ℕ, length, sym, ap, subst, arith}
use Rattle.std.proofs.lemmas.List.{take_all}
use Rattle.bdd_ops.specs.Words.{bit_of}
use Rattle.mv_encoding.specs.declared.field.Field.{Field}
use Rattle.mv_encoding.specs.Layouts.{number_at, numbers_at}
use Rattle.mv_encoding.proofs.Letters.{letter-length, letter-value, code-next, rest-next, code-laid}
use Rattle.mv_encoding.proofs.coding.Coding.code_of.Goals as goal

pub index-value-requires : goal.index-value-requires
index-value-requires c =
    let size = letter-length c.args.self.now.scope c.args.letter.now.values.items c.requires in
    let known = ap (λ l. length l.scope) c.self.view_is in
    omega (arith, size, known, c.loop-var-test.true, c.len-var-end.ensures.len, c.args.letter.now.values.ok)

pub put_number-requires-clause-fits : goal.put_number-requires-clause-fits
put_number-requires-clause-fits c =
    let view = ap (λ l. length l.scope) c.self.view_is in
    let known : c.loop-var.var < length c.args.self.now.scope = omega (arith, view, c.loop-var-test.true, c.len-var-end.ensures.len) in
    let small = letter-value c.args.self.now.scope c.args.letter.now.values.items c.loop-var.var c.index-value.result.now c.requires known in
    let values = ap (λ f. f.values) c.field-field.ensures.is in
    omega (arith, small, values, c.index-value.ensures, c.field-field.ensures.fits.enough)

pub loop-var-preserved : goal.loop-var-preserved
loop-var-preserved c =
    let view = ap (λ l. length l.scope) c.self.view_is in
    let known : c.loop-var.var < length c.args.self.now.scope = omega (arith, view, c.loop-var-test.true, c.len-var-end.ensures.len) in
    let N : Field → Type 0 = λ f. number_at f.before f.bits (bit_of c.put_number.new.code) ≡ c.index-value.result.now in
    let K : Field → Type 0 = λ f. (k : ℕ) → (k < f.before) ⊎ (f.before + f.bits ≤ k) → bit_of c.put_number.new.code k ≡ bit_of c.loop-var.code k in
    let number = subst N c.field-field.ensures.is c.put_number.ensures.number in
    let kept = subst K c.field-field.ensures.is c.put_number.ensures.rest in
    record {
      numbers = code-next c.args.self.now.scope c.args.letter.now.values.items c.loop-var.var c.index-value.result.now (bit_of c.loop-var.code) (bit_of c.put_number.new.code) c.requires known c.loop-var.invariant.numbers kept (number ∙ c.index-value.ensures);
      rest = rest-next c.args.self.now.scope c.loop-var.var (bit_of c.loop-var.code) (bit_of c.put_number.new.code) known c.loop-var.invariant.rest kept;
    }

pub returns-clause-numbers : goal.returns-clause-numbers
returns-clause-numbers c =
    let view = ap (λ l. length l.scope) c.self.view_is in
    let end : length c.args.self.now.scope ≤ c.loop-var.var = omega (arith, view, c.loop-var-test.false, c.len-var-end.ensures.len) in
    let size = letter-length c.args.self.now.scope c.args.letter.now.values.items c.requires in
    ap (λ vs. numbers_at vs 0 (bit_of c.loop-var.code)) (sym (take_all c.loop-var.var c.args.self.now.scope end))
    ∙ c.loop-var.invariant.numbers
    ∙ take_all c.loop-var.var c.args.letter.now.values.items (omega (arith, size, end))

pub returns-clause-laid : goal.returns-clause-laid
returns-clause-laid c = code-laid c.args.self.now c.args.letter.now.values.items (bit_of c.loop-var.code) (returns-clause-numbers c)
