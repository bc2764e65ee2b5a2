use Rattle.std.proofs.Common.{Some, sym, ◌∙◌, ap}
use Rattle.name_table.proofs.Numbered.{number_at, number_past}
use Rattle.name_table.proofs.domain.name_below.Goals as goal

pub returns-then-value-count : goal.returns-then-value-count
returns-then-value-count c = ap Some c.number.ensures ∙ sym (number_at c.args.count c.args.value c.if-value-count.true)

pub returns-else-value-count : goal.returns-else-value-count
returns-else-value-count c = sym (number_past c.args.count c.args.value c.if-value-count.false)
