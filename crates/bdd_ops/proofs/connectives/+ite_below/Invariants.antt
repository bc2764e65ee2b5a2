use Rattle.std.proofs.Common.{◌-◌}
use Rattle.bdd_ops.specs.Recursion.{low_of}
use Rattle.bdd_ops.proofs.connectives.+ite_below.Given as goal

abbrev pub decreases-ite_below : goal.decreases-ite_below
decreases-ite_below l = l.space.now.levels - low_of l.space.now l.c.now
