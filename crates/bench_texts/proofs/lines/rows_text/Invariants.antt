use Rattle.std.proofs.Common.{◌≡◌, ◌+◌, ◌*◌, length}
use Rattle.bench_texts.proofs.lines.rows_text.Given as goal

abbrev pub invariant-loop : goal.invariant-loop
invariant-loop l = length l.text.items ≡ 14 * l.counter + 59
