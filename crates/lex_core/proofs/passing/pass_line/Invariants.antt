use Rattle.std.proofs.Common.{◌≡◌, ◌+◌, ◌≤◌, length, None}
use Rattle.std.specs.Prelude.{◌||◌}
use Rattle.lex_core.specs.declared.sign.Place.TheVariants.{InText}
use Rattle.lex_core.specs.Tokens.{tokens_from, has_word}
use Rattle.lex_core.specs.Forward.{lines_after}
use Rattle.lex_core.proofs.passing.pass_line.Given as goal

abbrev pub invariant-loop-left : goal.invariant-loop-left
invariant-loop-left l = record {
  lines : lines_after l.now (tokens_from l.place l.at None l.left) ≡ lines_after l.number (tokens_from InText l.start None l.rest);
  word : (l.found || has_word (tokens_from l.place l.at None l.left)) ≡ has_word (tokens_from InText l.start None l.rest);
  place : l.at + length l.left ≡ l.start + length l.rest;
  number : l.now + length l.left ≤ l.number + length l.rest;
  shorter : length l.left ≤ length l.rest;
}

abbrev pub decreases-loop-left : goal.decreases-loop-left
decreases-loop-left l = length l.left
