use Rattle.std.proofs.Common.{◌≡◌, ◌++◌, length}
use Rattle.blifmv_lines.specs.Said.{texts, word_texts}
use Rattle.kiss_reader.proofs.buffer.fill.Given as goal

abbrev pub invariant-loop-word : goal.invariant-loop-word
invariant-loop-word l = texts l.words.items ++ word_texts l.left ≡ word_texts l.line.words

abbrev pub decreases-loop-word : goal.decreases-loop-word
decreases-loop-word l = length l.left
