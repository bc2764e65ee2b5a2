use Rattle.std.proofs.Common.{◌≤◌}
use Rattle.bench_texts.proofs.names.found_values.Given as goal

abbrev pub invariant-loop-value : goal.invariant-loop-value
invariant-loop-value l = l.found ≤ l.value-counter
