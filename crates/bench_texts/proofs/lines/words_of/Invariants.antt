use Rattle.std.proofs.Common.{◌≡◌, ◌+◌, length}
use Rattle.bench_texts.proofs.lines.words_of.Given as goal

-- what is counted, with what is left, is all
abbrev pub invariant-loop-count : goal.invariant-loop-count
invariant-loop-count l = l.count + length l.words ≡ length l.line.words

abbrev pub decreases-loop-count : goal.decreases-loop-count
decreases-loop-count l = length l.words
