use Rattle.std.proofs.Common.{◌≡◌, ◌++◌, length}
use Rattle.std.specs.List.{flat_map}
use Rattle.net_model.specs.Forms.{parted}
use Rattle.blifmv_lines.specs.Said.{texts, word_texts}
use Rattle.blifmv_lines.proofs.buffer.push_parted.Given as goal

abbrev pub invariant-loop-word : goal.invariant-loop-word
invariant-loop-word l = texts l.words.items ++ flat_map parted (word_texts l.left) ≡ texts l.fn.words.items ++ flat_map parted (word_texts l.fn.more)

abbrev pub decreases-loop-word : goal.decreases-loop-word
decreases-loop-word l = length l.left
