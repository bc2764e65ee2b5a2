use Rattle.std.proofs.Common.{◌≡◌, ◌==◌, ◌+◌, ◌-◌, ◌^◌, ◌∙◌, ◌∷◌, [], ℕ, sym, ap, arith}
use Rattle.std.proofs.lemmas.Result.{IfOk-weaker}
use Rattle.name_table.specs.CodeBits.{bits_in}
use Rattle.node_table.specs.Table.{Table}
use Rattle.bdd_ops.specs.Meaning.{StandsFor}
use Rattle.bdd_ops.specs.Recursion.{StandsBelow}
use Rattle.bdd_ops.proofs.Missing.{missing-same}
use Rattle.mv_encoding.specs.Layouts.{number_at, number_of}
use Rattle.mv_encoding.specs.Sets.{StandsForSet, layout_of}
use Rattle.mv_encoding.specs.Fields.{level_of}
use Rattle.mv_encoding.proofs.Letters.{no-bits-value, set-of-value}
use Rattle.mv_encoding.proofs.coding.Coding.cube.Goals as goal

pub number_codes-requires-clause-levels : goal.number_codes-requires-clause-levels
number_codes-requires-clause-levels c =
    let first = ap (λ l. l.first) c.self.view_is in
    let fits = c.field-field.ensures.fits in
    let last = c.requires.levels (bits_in c.args.self.now.scope - 1) (omega (arith, fits.within)) in
    omega (arith, first, fits.within, last)

pub returns-then-field-eq0-clause-ok : goal.returns-then-field-eq0-clause-ok
returns-then-field-eq0-clause-ok c =
    let bits = ap (λ f. f.bits) c.field-field.ensures.is in
    let values = ap (λ f. f.values) c.field-field.ensures.is in
    let power = ap (λ f. 2 ^ f.bits) c.field-field.ensures.is in
    record {
      valid = c.one.ensures.valid;
      value = λ b.
          c.one.ensures.value b
          ∙ sym (no-bits-value _ (level_of c.args.self.now c.args.var) c.args.value _ b (omega (arith, bits)) c.requires.value (omega (arith, values, power, c.field-field.ensures.fits.enough)));
    }

pub returns-then-field-eq0-clause-letters : goal.returns-then-field-eq0-clause-letters
returns-then-field-eq0-clause-letters c =
    set-of-value c.args.space.now c.args.self.now c.args.var c.args.value c.one.result c.requires.value (returns-then-field-eq0-clause-ok c)

pub returns-clause-ok : goal.returns-clause-ok
returns-clause-ok c =
    let new : Table = c.number_codes.new.space in
    let level : ℕ = c.self.inside.first + c.field-field.result.before in
    IfOk-weaker c.number_codes.result (λ r. StandsBelow new level r (λ b. number_at level c.field-field.result.bits b == c.args.value)) (λ r. StandsFor new r (λ b. number_of c.args.self.now c.args.var b == c.args.value))
    (λ r s. record { valid = s.valid; value = λ b. s.value b ∙ (λ i. number_at ((c.self.view_is i).first + (c.field-field.ensures.is i).before) (c.field-field.ensures.is i).bits b == c.args.value) })
    c.number_codes.ensures.ok

pub returns-clause-letters : goal.returns-clause-letters
returns-clause-letters c =
    let new : Table = c.number_codes.new.space in
    IfOk-weaker c.number_codes.result (λ r. StandsFor new r (λ b. number_of c.args.self.now c.args.var b == c.args.value)) (λ r. StandsForSet new (layout_of c.args.self.now c.args.var) r (λ letter. letter ≡ c.args.value ∷ []))
    (λ r s. set-of-value new c.args.self.now c.args.var c.args.value r c.requires.value s)
    (returns-clause-ok c)

pub returns-clause-needed : goal.returns-clause-needed
returns-clause-needed c full =
    let new : Table = c.number_codes.new.space in
    let level : ℕ = c.self.inside.first + c.field-field.result.before in
    missing-same new (λ b. number_at level c.field-field.result.bits b == c.args.value) (λ b. number_of c.args.self.now c.args.var b == c.args.value)
    (λ b i. number_at ((c.self.view_is i).first + (c.field-field.ensures.is i).before) (c.field-field.ensures.is i).bits b == c.args.value)
    (c.number_codes.ensures.needed full)
