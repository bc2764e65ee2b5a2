use Rattle.std.proofs.Common.{Some, arith, refl, sym, subst, ◌∙◌, ap}
use Rattle.std.specs.Str.{IsUtf8}
use Rattle.std.specs.Str.Parse.{error_kind}
use Rattle.std.proofs.lemmas.Fmt.{IsAscii-decimal}
use Rattle.std.proofs.lemmas.Str.{IsUtf8-from_ascii}
use Rattle.name_table.proofs.Numbered.{read_ok, read_err}
use Rattle.name_table.proofs.number.number_read.Goals as goal

pub returns-in_default : goal.returns-in_default
returns-in_default c = λ k lt is.
    absurd (c.in_default.ensures.cases.0 (subst IsUtf8 (sym is) (IsUtf8-from_ascii _ (IsAscii-decimal k (omega (arith, lt))))))

pub returns-in-Ok-parse : goal.returns-in-Ok-parse
returns-in-Ok-parse c = λ k lt is. ap Some (read_ok error_kind k c.in-Ok-parse.number c.in-Ok.text.now lt (c.in-Ok.ensures.cases.0 ∙ is) _ refl c.in-Ok-parse.ensures.value.0)

pub returns-in-Err : goal.returns-in-Err
returns-in-Err c = λ k lt is. absurd (read_err error_kind k c.in-Err.field-0 c.in-Ok.text.now lt (c.in-Ok.ensures.cases.0 ∙ is) _ refl c.in-Err.ensures.value.0)
