use Rattle.std.proofs.Common.{◌-◌}
use Rattle.node_table.specs.Table.{top_of}
use Rattle.part_relation.proofs.supports.+mark.Given as goal

abbrev pub decreases-mark : goal.decreases-mark
decreases-mark l = l.space.now.levels - top_of l.space.now l.r
