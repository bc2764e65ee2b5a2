use Rattle.std.proofs.Common.{◌≤◌}
use Rattle.bench_texts.proofs.names.found_names.Given as goal

abbrev pub invariant-loop-number : goal.invariant-loop-number
invariant-loop-number l = l.found ≤ l.number
