use Rattle.std.specs.Prelude.{ℕ, ◌+◌, Bool, true, false, List, [], ◌∷◌, ◌++◌, length, Option, None, Some, ◌==◌, ◌&&◌, ◌||◌, if◌then◌else◌}

-- The logical lines of a text, and their words.

-- a word, and where in the text it starts
pub record TextWord : Type 0 where
  pub start : ℕ
  pub bytes : List ℕ

abbrev pub text_word : ℕ → List ℕ → TextWord
text_word start bytes = record { start = start; bytes = bytes }

-- a logical line: the number of its first physical line, counted from 1, and its words
pub record LogicalLine : Type 0 where
  pub number : ℕ
  pub words : List TextWord

-- the line with these words, where there is a word
abbrev pub line_of : ℕ → List TextWord → List LogicalLine
line_of number [] = []
line_of number (word ∷ words) = record { number = number; words = word ∷ words } ∷ []

-- a space, a tab or a carriage return
abbrev pub is_blank : ℕ → Bool
is_blank b = (b == 32) || ((b == 9) || (b == 13))

-- a byte that is a word alone: a parenthesis or a comma
abbrev pub is_alone : ℕ → Bool
is_alone b = (b == 40) || ((b == 41) || (b == 44))

-- no byte
abbrev pub is_empty : List ℕ → Bool
is_empty [] = true
is_empty (b ∷ bs) = false

-- one more byte before the first of these lines
abbrev pub with_first : ℕ → List (List ℕ) → List (List ℕ)
with_first b [] = (b ∷ []) ∷ []
with_first b (line ∷ lines) = (b ∷ line) ∷ lines

-- the physical lines, each without the line feed that ends it
abbrev pub physical_lines : List ℕ → List (List ℕ)
physical_lines [] = [] ∷ []
physical_lines (b ∷ bs) = if b == 10 then [] ∷ physical_lines bs else with_first b (physical_lines bs)

-- the bytes before the first `#`
abbrev pub without_comment : List ℕ → List ℕ
without_comment [] = []
without_comment (b ∷ bs) = if b == 35 then [] else b ∷ without_comment bs

-- the bytes without the blanks at their end
abbrev pub trimmed : List ℕ → List ℕ
trimmed [] = []
trimmed (b ∷ bs) = if is_blank b && is_empty (trimmed bs) then [] else b ∷ trimmed bs

-- what is left of a physical line: first its comment is dropped, then the blanks at its end, of which a carriage
-- return before the line feed is one
abbrev pub content : List ℕ → List ℕ
content line = trimmed (without_comment line)

-- the bytes end with a backslash
abbrev pub ends_with_backslash : List ℕ → Bool
ends_with_backslash [] = false
ends_with_backslash (b ∷ bs) = if is_empty bs then b == 92 else ends_with_backslash bs

-- the bytes without the last one
abbrev pub all_but_last : List ℕ → List ℕ
all_but_last [] = []
all_but_last (b ∷ bs) = if is_empty bs then [] else b ∷ all_but_last bs

-- the next physical line continues the logical one, with a blank between them
abbrev pub is_continued : List ℕ → Bool
is_continued line = ends_with_backslash (content line)

-- the part of a physical line that goes to the logical one: the joining backslash is dropped
abbrev pub text_of : List ℕ → List ℕ
text_of line = if is_continued line then all_but_last (content line) else content line

-- the open word, where there is one, and then the words
abbrev pub with_open : Option TextWord → List TextWord → List TextWord
with_open None words = words
with_open (Some word) words = word ∷ words

-- the open word with one more byte, which stands at this place
abbrev pub longer : ℕ → Option TextWord → ℕ → Option TextWord
longer at None b = Some (text_word at (b ∷ []))
longer at (Some word) b = Some (text_word word.start (word.bytes ++ b ∷ []))

-- the words of these bytes, of which the first is the byte `at` of the text, behind an open word: bytes alone, and
-- longest runs of other bytes than blanks and those
abbrev pub words_from : ℕ → Option TextWord → List ℕ → List TextWord
words_from at word [] = with_open word []
words_from at word (b ∷ bs) =
    if is_blank b then with_open word (words_from (at + 1) None bs)
    else (if is_alone b then with_open word (text_word at (b ∷ []) ∷ words_from (at + 1) None bs)
    else words_from (at + 1) (longer at word b) bs)

-- the words of a physical line that starts at this byte
abbrev pub line_words : ℕ → List ℕ → List TextWord
line_words start line = words_from start None (text_of line)

-- the logical lines of these physical ones, of which the first has the number `now` and starts at this byte: the open
-- logical line has the number `first` and these words
abbrev pub joined_lines : ℕ → ℕ → ℕ → List TextWord → List (List ℕ) → List LogicalLine
joined_lines first now start words [] = line_of first words
joined_lines first now start words (line ∷ lines) =
    if is_continued line
    then joined_lines first (now + 1) (start + length line + 1) (words ++ line_words start line) lines
    else line_of first (words ++ line_words start line) ++ joined_lines (now + 1) (now + 1) (start + length line + 1) [] lines

-- the logical lines of a text: those of its physical lines, of which the first has the number 1
abbrev pub logical_lines : List ℕ → List LogicalLine
logical_lines text = joined_lines 1 1 0 [] (physical_lines text)
