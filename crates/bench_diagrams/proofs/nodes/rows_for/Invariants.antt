use Rattle.std.proofs.Common.{ℕ, ◌+◌, ◌*◌, ◌/◌, ◌<◌}
use Rattle.bench_diagrams.proofs.nodes.rows_for.Given as goal

-- the rows that were tried have no room
abbrev pub invariant-loop-rows : goal.invariant-loop-rows
invariant-loop-rows l = (k : ℕ) → k < l.rows → k * (k + 1) / 2 < l.size
