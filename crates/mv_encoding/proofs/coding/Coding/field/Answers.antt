use Rattle.std.proofs.Common.{◌<◌, ◌∙◌, length, get_or, sym, ap, subst, arith}
use Rattle.mv_encoding.specs.declared.field.Field.{Field}
use Rattle.name_table.specs.CodeBits.{bits_in}
use Rattle.mv_encoding.specs.Layouts.{Layout}
use Rattle.mv_encoding.specs.Fields.{field_at, FitsIn}
use Rattle.mv_encoding.proofs.Places.{length-fields, field-is}
use Rattle.mv_encoding.proofs.coding.Coding.field.Goals as goal

pub index-requires : goal.index-requires
index-requires c =
    let size = ap length c.self.invariant.fields_are ∙ length-fields c.self.inside.scope 0 in
    let known = ap (λ l. length l.scope) c.self.view_is in
    omega (arith, size, known, c.self.inside.fields.ok)

pub returns-clause-is : goal.returns-clause-is
returns-clause-is c =
    let view = ap (λ l. length l.scope) c.self.view_is in
    let known : c.args.var < length c.self.inside.scope = omega (arith, view) in
    c.index.ensures
    ∙ ap (λ fields. get_or fields c.args.var c.index.result.now) c.self.invariant.fields_are
    ∙ field-is c.self.inside.scope c.args.var c.index.result.now known
    ∙ ap (λ l. field_at l.scope c.args.var) c.self.view_is

pub returns-clause-fits : goal.returns-clause-fits
returns-clause-fits c =
    let view = ap (λ l. length l.scope) c.self.view_is in
    let known : c.args.var < length c.self.inside.scope = omega (arith, view) in
    let P : Layout → Type 0 = λ l. FitsIn (bits_in l.scope) (field_at l.scope c.args.var) in
    let Q : Field → Type 0 = λ field. FitsIn (bits_in c.args.self.now.scope) field in
    subst Q (sym (returns-clause-is c)) (subst P c.self.view_is (c.self.invariant.all_fit c.args.var known))
