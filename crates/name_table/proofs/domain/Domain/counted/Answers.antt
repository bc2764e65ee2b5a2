use Rattle.name_table.proofs.Apart.{IsDomain-numbers}
use Rattle.name_table.proofs.domain.Domain.counted.Goals as goal

pub invariant_of-result : goal.invariant_of-result
invariant_of-result c = IsDomain-numbers c.args.n c.requires.some c.requires.few
