use Rattle.std.proofs.Common.{◌≤◌, vec_len}
use Rattle.bench_texts.proofs.collisions.push_name.Given as goal

abbrev pub invariant-loop-pair : goal.invariant-loop-pair
invariant-loop-pair l = vec_len l.initial.text ≤ vec_len l.text
