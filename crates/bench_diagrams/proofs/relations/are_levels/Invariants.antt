use Rattle.std.proofs.Common.{◌<◌, ℕ, get_or}
use Rattle.bench_diagrams.proofs.relations.are_levels.Given as goal

abbrev pub invariant-loop-place : goal.invariant-loop-place
invariant-loop-place l = (k d : ℕ) → k < l.place → get_or l.levels k d < l.space.levels
