use Rattle.std.proofs.Common.{◌+◌, ◌≤◌, vec_len}
use Rattle.bench_texts.proofs.collisions.push_colliding.Given as goal

abbrev pub invariant-loop-number : goal.invariant-loop-number
invariant-loop-number l = vec_len l.initial.text + l.number ≤ vec_len l.text
