use Rattle.std.proofs.Common.{◌<◌}
use Rattle.part_relation.proofs.Turns.{all-in-set}
use Rattle.diagram_tests.proofs.parts.plan_keeping.Goals as goal

pub schedule-requires-clause-keep : goal.schedule-requires-clause-keep
schedule-requires-clause-keep c =
    all-in-set (λ level. level < c.args.space.now.levels) c.args.keep.now c.in_ok-keep.keep c.in_ok-keep.ensures (c.are_levels.ensures c.if-are_levels.true)
