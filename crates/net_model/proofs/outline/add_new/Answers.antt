use Rattle.std.proofs.Common.{◌≡◌, ℕ, List, [], ◌∷◌, ◌++◌, Option, Some, None, sym, ◌∙◌, subst, arith}
use Rattle.name_table.specs.Variables.{Variable}
use Rattle.name_table.specs.Causes.{NameRefused}
use Rattle.net_model.proofs.Taken.{absent, room, small, added}
use Rattle.net_model.proofs.outline.add_new.Goals as goal

none-some : {k : ℕ} → None ≡ Some k → ⊥
none-some is = cc

pub unreachable-requires : goal.unreachable-requires
unreachable-requires c =
    let v : Variable = record { name = c.args.name.now; values = c.args.domain } in
    let refused = subst (NameRefused c.args.names.now v) c.in-Err-DomainDiffers.field-0-is c.in-Err-DomainDiffers.ensures.refused in
    none-some (sym (absent c.args.names.now v c.requires) ∙ refused.2)

pub unreachable-requires-in-Err-TooManyVars : goal.unreachable-requires-in-Err-TooManyVars
unreachable-requires-in-Err-TooManyVars c =
    let v : Variable = record { name = c.args.name.now; values = c.args.domain } in
    let refused = subst (NameRefused c.args.names.now v) c.in-Err-TooManyVars.field-0-is c.in-Err-TooManyVars.ensures.refused in
    let few = room c.args.names.now v c.requires in
    let many = refused.1 in
    omega (arith, few, many)

pub unreachable-requires-in-Err-TooManyValues : goal.unreachable-requires-in-Err-TooManyValues
unreachable-requires-in-Err-TooManyValues c =
    let v : Variable = record { name = c.args.name.now; values = c.args.domain } in
    let refused = subst (NameRefused c.args.names.now v) c.in-Err-TooManyValues.field-0-is c.in-Err-TooManyValues.ensures.refused in
    let few = small c.args.names.now v c.requires in
    let many = refused.2 in
    omega (arith, few, many)

pub returns-in-Ok-clause-number : goal.returns-in-Ok-clause-number
returns-in-Ok-clause-number c =
    (added c.args.names.now (record { name = c.args.name.now; values = c.args.domain }) c.requires c.add.new.self c.in-Ok.var.0 c.in-Ok.ensures.ok).number_is

pub returns-in-Ok-clause-names : goal.returns-in-Ok-clause-names
returns-in-Ok-clause-names c =
    (added c.args.names.now (record { name = c.args.name.now; values = c.args.domain }) c.requires c.add.new.self c.in-Ok.var.0 c.in-Ok.ensures.ok).appended
