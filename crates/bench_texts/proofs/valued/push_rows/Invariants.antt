use Rattle.std.proofs.Common.{◌≤◌, vec_len}
use Rattle.bench_texts.proofs.valued.push_rows.Given as goal

abbrev pub invariant-loop-row : goal.invariant-loop-row
invariant-loop-row l = vec_len l.initial.text ≤ vec_len l.text
