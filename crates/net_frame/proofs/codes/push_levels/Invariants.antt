use Rattle.std.proofs.Common.{◌≡◌, ◌++◌, take}
use Rattle.mv_encoding.specs.Layouts.{levels_of}
use Rattle.net_frame.proofs.codes.push_levels.Given as goal

abbrev pub invariant-loop-k : goal.invariant-loop-k
invariant-loop-k l = l.levels.items ≡ l.fn.levels.items ++ take l.k (levels_of l.code)
