use Rattle.std.proofs.Common.{sym, ◌∙◌, ap, arith}
use Rattle.std.proofs.lemmas.Bool.Decides.{nat_tests}
use Rattle.name_table.specs.DomainValues.{names_told}
use Rattle.name_table.proofs.Numbered.{same_count}
use Rattle.name_table.proofs.domain.Domain.is_same.Goals as goal

pub returns-in-Numbered-Numbered : goal.returns-in-Numbered-Numbered
returns-in-Numbered-Numbered c =
    same_count c.in-Numbered-Numbered.count c.in-Numbered-Numbered.other c.args.self.now c.args.other.now _
    (ap names_told (sym c.in-Numbered-Numbered.is-0) ∙ c.self.view_is)
    (ap names_told (sym c.in-Numbered-Numbered.is-1) ∙ c.other.view_is)
    (λ h. grind (arith, nat_tests))
    (λ h. grind (arith, nat_tests))
