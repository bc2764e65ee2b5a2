use Rattle.std.proofs.Common.{◌-◌}
use Rattle.node_table.specs.Table.{top_of}
use Rattle.bdd_walk.proofs.cuts.+gather.Given as goal

abbrev pub decreases-gather : goal.decreases-gather
decreases-gather l = l.space.now.levels - top_of l.space.now l.r
