use Rattle.std.specs.Prelude.{◌≡◌, ◌==◌, ℕ, Bool, true, false, not, ◌&&◌, ◌||◌, nat_lt, List, [], ◌∷◌, length}
use Rattle.std.specs.List.{AllByRecursion, list_all}
use Rattle.lex_core.specs.LogicalLines.{is_blank, is_alone, TextWord, LogicalLine, logical_lines}

-- What the words of a text are made of.

-- a byte of a word of several bytes: no blank, no parenthesis or comma, no line feed, and not the `#` of a comment
abbrev pub is_word_byte : ℕ → Bool
is_word_byte b = not (is_blank b) && (not (is_alone b) && (not (b == 10) && not (b == 35)))

-- some such bytes, and no other
abbrev pub is_word : List ℕ → Bool
is_word bytes = nat_lt 0 (length bytes) && list_all is_word_byte bytes

-- one byte that is a word alone
abbrev pub is_byte_alone : List ℕ → Bool
is_byte_alone [] = false
is_byte_alone (b ∷ []) = is_alone b
is_byte_alone (b ∷ more ∷ bytes) = false

-- a word as it can stand in a text
abbrev pub is_text_word : List ℕ → Bool
is_text_word bytes = is_byte_alone bytes || is_word bytes

-- each word of these is one
abbrev pub AreTextWords : List TextWord → Type 0
AreTextWords words = AllByRecursion (λ (word : TextWord). is_text_word word.bytes ≡ true) words

-- so is each word of the logical lines of a text
abbrev pub HasTextWords : List ℕ → Type 0
HasTextWords text = AllByRecursion (λ (line : LogicalLine). AreTextWords line.words) (logical_lines text)
