use Rattle.std.proofs.Common.{◌≡◌, ◌≤◌, vec_len}
use Rattle.std.specs.Prelude.{All}
use Rattle.bench_diagrams.specs.Rows.{StandsAt}
use Rattle.bench_diagrams.proofs.nodes.make_nodes.Given as goal

abbrev pub invariant-loop-level : goal.invariant-loop-level
invariant-loop-level l =
    (l.level ≤ l.space.levels) × (l.space.levels ≡ l.initial.space.levels) × (vec_len l.made ≤ l.size)
    × All (StandsAt l.space l.level) l.row.items

abbrev pub decreases-loop-level : goal.decreases-loop-level
decreases-loop-level l = l.level
