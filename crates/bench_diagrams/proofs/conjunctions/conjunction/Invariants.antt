use Rattle.std.proofs.Common.{◌≡◌, ◌≤◌}
use Rattle.node_table.specs.Table.{IsValid}
use Rattle.bench_diagrams.proofs.conjunctions.conjunction.Given as goal

abbrev pub invariant-loop-pair : goal.invariant-loop-pair
invariant-loop-pair l = (l.pair ≤ l.pairs) × (l.space.levels ≡ l.initial.space.levels) × IsValid l.space l.all

abbrev pub decreases-loop-pair : goal.decreases-loop-pair
decreases-loop-pair l = l.pair
