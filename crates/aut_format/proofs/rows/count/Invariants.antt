use Rattle.std.proofs.Common.{◌≡◌, ◌+◌, drop}
use Rattle.bdd_walk.specs.Paths.{path_of}
use Rattle.aut_format.specs.Rows.{count_before}
use Rattle.aut_format.proofs.rows.count.Given as goal

abbrev pub invariant-loop-place : goal.invariant-loop-place
invariant-loop-place l = l.place + count_before (path_of (drop l.place l.path)) l.level ≡ count_before (path_of l.path) l.level
