use Rattle.std.proofs.Common.{◌≡◌, ◌++◌, take}
use Rattle.sync_solve.proofs.composing.append.Given as goal

abbrev pub invariant-loop-k : goal.invariant-loop-k
invariant-loop-k l = l.parts ≡ l.fn.parts ++ take l.k l.more
