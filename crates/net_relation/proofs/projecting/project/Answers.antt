use Rattle.part_relation.specs.Plans.{all_hold, named_by}
use Rattle.net_relation.proofs.Projected.{projected}
use Rattle.net_relation.proofs.projecting.project.Goals as goal

pub returns-in-Ok-clause-ok : goal.returns-in-Ok-clause-ok
returns-in-Ok-clause-ok c =
    projected c.args.space.now c.image.new.space c.in-Ok.r c.one-all.result (named_by c.in_ok-plan.plan) c.args.keep.now (all_hold c.args.space.now c.args.parts.now)
    c.image.ensures.levels c.requires.keep c.in_ok-plan.ensures.keep c.one-all.ensures.value c.in-Ok.ensures.ok
