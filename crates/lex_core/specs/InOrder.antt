use Rattle.std.specs.Prelude.{◌≡◌, ◌≤◌, ◌<◌, ◌+◌, ℕ, List, [], ◌∷◌, ◌++◌, length}
use Rattle.std.specs.List.{slice_range}
use Rattle.lex_core.specs.LogicalLines.{TextWord, LogicalLine, logical_lines}

-- How the words and lines of a text stand in it.

-- a word of a text, no earlier than the byte `from`, is the slice of the text at its span
pub record StandsIn (text : List ℕ) (from : ℕ) (word : TextWord) : Type 0 where
  pub behind : from ≤ word.start
  pub some : 0 < length word.bytes
  pub slice : slice_range text word.start (word.start + length word.bytes) ≡ word.bytes

-- so do these words, each behind the end of the one before
abbrev pub StandInOrder : List ℕ → ℕ → List TextWord → Type 0
StandInOrder text from [] = Unit {0}
StandInOrder text from (word ∷ words) =
    StandsIn text from word × StandInOrder text (word.start + length word.bytes) words

-- the words of all lines
abbrev pub words_of_lines : List LogicalLine → List TextWord
words_of_lines [] = []
words_of_lines (line ∷ lines) = line.words ++ words_of_lines lines

-- each line has a word, and the numbers rise, the first of them no lower than `from`
abbrev pub NumbersRise : ℕ → List LogicalLine → Type 0
NumbersRise from [] = Unit {0}
NumbersRise from (line ∷ lines) = (0 < length line.words) × (from ≤ line.number) × NumbersRise (line.number + 1) lines

-- the words of a text are its slices at their spans, and the spans are in order and disjoint
abbrev pub WordsStandInOrder : List ℕ → Type 0
WordsStandInOrder text = StandInOrder text 0 (words_of_lines (logical_lines text))

abbrev pub LineNumbersRise : List ℕ → Type 0
LineNumbersRise text = NumbersRise 1 (logical_lines text)
