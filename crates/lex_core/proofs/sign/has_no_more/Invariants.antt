use Rattle.std.proofs.Common.{◌≡◌, length}
use Rattle.lex_core.specs.Signs.{no_more}
use Rattle.lex_core.proofs.sign.has_no_more.Given as goal

abbrev pub invariant-loop-left : goal.invariant-loop-left
invariant-loop-left l = no_more l.left ≡ no_more l.rest

abbrev pub decreases-loop-left : goal.decreases-loop-left
decreases-loop-left l = length l.left
