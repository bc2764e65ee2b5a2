use Rattle.std.proofs.Common.{◌≡◌, drop}
use Rattle.bdd_walk.specs.Paths.{path_of}
use Rattle.aut_format.specs.Rows.{allows_bit}
use Rattle.aut_format.proofs.rows.allows_bit.Given as goal

abbrev pub invariant-loop-lit : goal.invariant-loop-lit
invariant-loop-lit l = allows_bit (path_of (drop l.lit-index l.path)) l.level l.bit ≡ allows_bit (path_of l.path) l.level l.bit
