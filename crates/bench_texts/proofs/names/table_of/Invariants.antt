use Rattle.std.proofs.Common.{◌≡◌, length}
use Rattle.bench_texts.proofs.names.table_of.Given as goal

abbrev pub invariant-loop-number : goal.invariant-loop-number
invariant-loop-number l = length l.names ≡ l.number
