use Rattle.std.proofs.Common.{◌≡◌, ◌++◌, length}
use Rattle.blifmv_lines.specs.Said.{texts, word_texts}
use Rattle.blifmv_lines.proofs.buffer.push_words.Given as goal

abbrev pub invariant-loop-word : goal.invariant-loop-word
invariant-loop-word l = texts l.words.items ++ word_texts l.left ≡ texts l.fn.words.items ++ word_texts l.fn.more

abbrev pub decreases-loop-word : goal.decreases-loop-word
decreases-loop-word l = length l.left
