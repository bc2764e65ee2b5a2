use Rattle.std.proofs.Common.{◌-◌}
use Rattle.bdd_walk.specs.Splitting.{low_of}
use Rattle.bdd_walk.proofs.splits.+gather.Given as goal

abbrev pub decreases-gather : goal.decreases-gather
decreases-gather l = l.space.now.levels - low_of l.space.now l.pair.now
