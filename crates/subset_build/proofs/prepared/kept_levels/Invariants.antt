use Rattle.std.proofs.Common.{◌≡◌, ◌++◌, take}
use Rattle.bdd_ops.specs.Levels.{sources}
use Rattle.subset_build.proofs.prepared.kept_levels.Given as goal

abbrev pub invariant-loop-k : goal.invariant-loop-k
invariant-loop-k l = l.levels.items ≡ take l.k l.keep

abbrev pub invariant-loop-k-2 : goal.invariant-loop-k-2
invariant-loop-k-2 l = l.levels.items ≡ l.keep ++ sources (take l.k l.state)
