use Rattle.std.proofs.Common.{length, sym, ◌∙◌, ap}
use Rattle.name_table.specs.DomainValues.{names_told}
use Rattle.name_table.proofs.Numbered.{length_numbers}
use Rattle.name_table.proofs.domain.Domain.len.Goals as goal

pub returns-in-Numbered-clause-len : goal.returns-in-Numbered-clause-len
returns-in-Numbered-clause-len c = sym (length_numbers c.in-Numbered.count) ∙ ap length (ap names_told (sym c.in-Numbered.is) ∙ c.self.view_is)
