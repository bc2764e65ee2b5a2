-- Each logical line has a word.
use Rattle.std.proofs.Common.{◌<◌, ◌+◌, ◌++◌, ℕ, true, false, List, [], ◌∷◌, length, if◌then◌else◌, arith}
use Rattle.std.specs.List.{AllByRecursion}
use Rattle.lex_core.specs.LogicalLines.{TextWord, LogicalLine, line_of, is_continued, line_words, joined_lines, physical_lines, logical_lines}

abbrev pub HaveWords : List LogicalLine → Type 0
HaveWords lines = AllByRecursion (λ (line : LogicalLine). 0 < length line.words) lines

one_line : (number : ℕ) (words : List TextWord) → HaveWords (line_of number words)
one_line number [] = tt
one_line number (word ∷ words) = (omega arith, tt)

both_lines : (lines more : List LogicalLine) → HaveWords lines → HaveWords more → HaveWords (lines ++ more)
both_lines [] more h k = k
both_lines (line ∷ lines) more h k = (h.0, both_lines lines more h.1 k)

joined : (first now start : ℕ) (words : List TextWord) (lines : List (List ℕ)) → HaveWords (joined_lines first now start words lines)
joined first now start words [] = one_line first words
joined first now start words (line ∷ lines) =
    let behind = words ++ line_words start line in
    let more = joined first (now + 1) (start + length line + 1) behind lines in
    let next = joined (now + 1) (now + 1) (start + length line + 1) [] lines in
    elim (is_continued line) as (λ b. HaveWords (if b then joined_lines first (now + 1) (start + length line + 1) behind lines else line_of first behind ++ joined_lines (now + 1) (now + 1) (start + length line + 1) [] lines)) [
      | true ↦ more
      | false ↦ both_lines (line_of first behind) (joined_lines (now + 1) (now + 1) (start + length line + 1) [] lines) (one_line first behind) next
    ]

pub lines_have_words : (bytes : List ℕ) → HaveWords (logical_lines bytes)
lines_have_words bytes = joined 1 1 0 [] (physical_lines bytes)
