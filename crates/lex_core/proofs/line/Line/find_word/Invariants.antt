use Rattle.std.proofs.Common.{◌≡◌, length, slice_get}
use Rattle.lex_core.proofs.line.Line.find_word.Given as goal

abbrev pub invariant-loop-found : goal.invariant-loop-found
invariant-loop-found l = slice_get l.words l.left ≡ slice_get l.self.words l.k

abbrev pub decreases-loop-found : goal.decreases-loop-found
decreases-loop-found l = length l.words
