use Rattle.part_relation.proofs.Free.{fits-grow, parts-grow}
use Rattle.part_relation.proofs.laws.plans_fit_when_spaces_grow.Goals as goal

pub returns-clause-parts : goal.returns-clause-parts
returns-clause-parts c before after parts grow valid = parts-grow before after grow parts valid

pub returns-clause-plans : goal.returns-clause-plans
returns-clause-plans c before after parts plan grow valid fits = fits-grow before after grow parts plan valid fits
