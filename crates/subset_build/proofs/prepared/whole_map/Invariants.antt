use Rattle.std.proofs.Common.{◌≡◌, ◌++◌, take}
use Rattle.subset_build.specs.Preparing.{at_itself}
use Rattle.subset_build.proofs.prepared.whole_map.Given as goal

abbrev pub invariant-loop-k : goal.invariant-loop-k
invariant-loop-k l = l.pairs.items ≡ at_itself (take l.k l.keep)

abbrev pub invariant-loop-k-2 : goal.invariant-loop-k-2
invariant-loop-k-2 l = l.pairs.items ≡ at_itself l.keep ++ take l.k l.state
