use Rattle.std.proofs.Common.{◌+◌, ◌*◌, ◌-◌}
use Rattle.bdd_ops.specs.Recursion.{low_of}
use Rattle.bdd_ops.proofs.quantifiers.+hiding.Given as goal

abbrev pub decreases-hide_at : goal.decreases-hide_at
decreases-hide_at l = 2 * (l.space.now.levels - low_of l.space.now l.c.now)

abbrev pub decreases-hide_below : goal.decreases-hide_below
decreases-hide_below l = 2 * (l.space.now.levels - low_of l.space.now l.c.now) + 1
