use Rattle.std.specs.Prelude.{ℕ, ◌+◌, List, [], ◌∷◌, ◌++◌, None}
use Rattle.lex_core.specs.declared.sign.Place.TheVariants.{InText}
use Rattle.lex_core.specs.LogicalLines.{TextWord, LogicalLine, line_of}
use Rattle.lex_core.specs.Tokens.{Token, TheWord, Joined, Ended, tokens_from, words_at}

-- The logical lines that are left of a text, as they are read forward.

-- the lines of these tokens: the open logical line has the number `first` and these words, the physical line `now`
abbrev pub lines_from : ℕ → ℕ → List TextWord → List Token → List LogicalLine
lines_from first now words [] = line_of first words
lines_from first now words (TheWord word ∷ tokens) = lines_from first now (words ++ word ∷ []) tokens
lines_from first now words (Joined ∷ tokens) = lines_from first (now + 1) words tokens
lines_from first now words (Ended ∷ tokens) = line_of first words ++ lines_from (now + 1) (now + 1) [] tokens

-- the logical lines of these bytes, which begin a line of this number, at this place of the text
abbrev pub lines_at : ℕ → ℕ → List ℕ → List LogicalLine
lines_at number start bytes = lines_from number number [] (tokens_from InText start None bytes)

-- the logical line that begins with these bytes, which may have no word
abbrev pub line_at : ℕ → ℕ → List ℕ → LogicalLine
line_at number start bytes = record { number = number; words = words_at InText start bytes }

-- the lines behind the open logical line, where `now` is the number of the physical line
abbrev pub lines_after : ℕ → List Token → List LogicalLine
lines_after now [] = []
lines_after now (TheWord word ∷ tokens) = lines_after now tokens
lines_after now (Joined ∷ tokens) = lines_after (now + 1) tokens
lines_after now (Ended ∷ tokens) = lines_from (now + 1) (now + 1) [] tokens
