use Rattle.std.proofs.Common.{◌≤◌, vec_len}
use Rattle.bench_diagrams.proofs.Rows.{IsRow}
use Rattle.bench_diagrams.proofs.nodes.make_row.Given as goal

abbrev pub invariant-loop-lo : goal.invariant-loop-lo
invariant-loop-lo l = IsRow l.initial.space.levels l.space l.level l.below l.row.items l.hi × (vec_len l.made ≤ l.size)
