use Rattle.std.proofs.Common.{◌≡◌, ◌+◌, ◌<◌, ◌^◌, length}
use Rattle.lex_core.specs.Tokens.{words_at}
use Rattle.lex_core.proofs.words.Words.next_word.Given as goal

abbrev pub invariant-loop-self : goal.invariant-loop-self
invariant-loop-self l = record {
  words : words_at l.self-inside.place l.self-inside.start l.self-inside.rest.now ≡ l.fn.self;
  fits : l.self-inside.start + length l.self-inside.rest.now < 2 ^ 64;
}

abbrev pub decreases-loop-self : goal.decreases-loop-self
decreases-loop-self l = length l.self-inside.rest.now
