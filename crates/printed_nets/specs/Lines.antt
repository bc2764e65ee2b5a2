use Rattle.std.specs.Prelude.{◌≡◌, ◌==◌, ◌&&◌, ℕ, Bool, true, false, not, List, [], ◌∷◌, ◌++◌, Option, Some, None, if◌then◌else◌}
use Rattle.std.specs.List.{list_all}
use Rattle.lex_core.specs.LogicalLines.{is_blank, is_alone}

-- Lines of a text that are each one logical line, and their words.

-- no line feed and no beginning of a comment
abbrev pub is_plain_byte : ℕ → Bool
is_plain_byte b = not (b == 10) && not (b == 35)

-- the last byte is no blank and no backslash
abbrev pub ends_plainly : List ℕ → Bool
ends_plainly [] = false
ends_plainly (b ∷ []) = not (is_blank b) && not (b == 92)
ends_plainly (b ∷ c ∷ bytes) = ends_plainly (c ∷ bytes)

-- the bytes of the open word, where there is one, and then the words
abbrev pub with_bytes : Option (List ℕ) → List (List ℕ) → List (List ℕ)
with_bytes None words = words
with_bytes (Some word) words = word ∷ words

-- the open word with one more byte
abbrev pub with_byte : Option (List ℕ) → ℕ → List ℕ
with_byte None b = b ∷ []
with_byte (Some word) b = word ++ b ∷ []

-- the words of these bytes behind an open word
abbrev pub words_behind : Option (List ℕ) → List ℕ → List (List ℕ)
words_behind word [] = with_bytes word []
words_behind word (b ∷ bs) =
    if is_blank b then with_bytes word (words_behind None bs)
    else (if is_alone b then with_bytes word ((b ∷ []) ∷ words_behind None bs)
    else words_behind (Some (with_byte word b)) bs)

abbrev pub words_in : List ℕ → List (List ℕ)
words_in bytes = words_behind None bytes

-- a line that is a logical line by itself
pub record IsPlainLine (line : List ℕ) : Type 0 where
  pub plain : list_all is_plain_byte line ≡ true
  pub ends : ends_plainly line ≡ true
