use Rattle.std.proofs.Common.{◌≡◌, ◌+◌, length}
use Rattle.lex_core.specs.Tokens.{part_len}
use Rattle.lex_core.proofs.words.part_len.Given as goal

abbrev pub invariant-loop-left : goal.invariant-loop-left
invariant-loop-left l = record {
  so_far : l.len + part_len l.left ≡ part_len l.bytes;
  within : l.len + length l.left ≡ length l.bytes;
}

abbrev pub decreases-loop-left : goal.decreases-loop-left
decreases-loop-left l = length l.left
