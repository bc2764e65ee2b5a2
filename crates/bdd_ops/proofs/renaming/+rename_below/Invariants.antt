use Rattle.std.proofs.Common.{◌-◌}
use Rattle.node_table.specs.Table.{top_of}
use Rattle.bdd_ops.proofs.renaming.+rename_below.Given as goal

abbrev pub decreases-rename_below : goal.decreases-rename_below
decreases-rename_below l = l.space.now.levels - top_of l.space.now l.f
