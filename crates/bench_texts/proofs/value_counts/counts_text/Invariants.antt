use Rattle.std.proofs.Common.{◌≤◌, vec_len}
use Rattle.bench_texts.proofs.value_counts.counts_text.Given as goal

abbrev pub invariant-loop-number : goal.invariant-loop-number
invariant-loop-number l = l.number ≤ vec_len l.text
