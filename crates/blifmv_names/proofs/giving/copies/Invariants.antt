use Rattle.std.proofs.Common.{◌≡◌, map, take}
use Rattle.blifmv_lines.specs.Said.{texts}
use Rattle.blifmv_names.proofs.giving.copies.Given as goal

abbrev pub invariant-loop-word : goal.invariant-loop-word
invariant-loop-word l = map (λ n. n.items) l.names.items ≡ texts (take l.word-index l.words)
