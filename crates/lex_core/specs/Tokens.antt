use Rattle.std.specs.Prelude.{ℕ, ◌+◌, Bool, true, false, List, [], ◌∷◌, Option, None, Some, if◌then◌else◌}
use Rattle.lex_core.specs.declared.sign.Place.{Place}
use Rattle.lex_core.specs.declared.sign.Sign.{Sign}
use Rattle.lex_core.specs.declared.sign.Sign.TheVariants.{Part, Alone, Gap, Hash, Mark, Join, End}
use Rattle.lex_core.specs.LogicalLines.{TextWord, text_word, longer}
use Rattle.lex_core.specs.Signs.{text_sign, sign_at, place_behind}

-- The words of a text and the ends of its lines, in order.

-- a word, the end of a physical line that the next one continues, the end of a logical line
pub data Token : Type 0 where
  TheWord : TextWord → Token
  Joined : Token
  Ended : Token

-- the open word, where there is one, and then the tokens
abbrev pub closed : Option TextWord → List Token → List Token
closed None tokens = tokens
closed (Some word) tokens = TheWord word ∷ tokens

-- the tokens from a byte with this sign on, where `more` gives those behind it
abbrev pub next_tokens : Sign → ℕ → ℕ → Option TextWord → (Option TextWord → List Token) → List Token
next_tokens Part b at word more = more (longer at word b)
next_tokens Alone b at word more = closed word (TheWord (text_word at (b ∷ [])) ∷ more None)
next_tokens Gap b at word more = closed word (more None)
next_tokens Hash b at word more = closed word (more None)
next_tokens Mark b at word more = closed word (more None)
next_tokens Join b at word more = closed word (Joined ∷ more None)
next_tokens End b at word more = closed word (Ended ∷ more None)

-- the tokens of these bytes, of which the first is the byte `at` of the text, behind an open word
abbrev pub tokens_from : Place → ℕ → Option TextWord → List ℕ → List Token
tokens_from place at word [] = closed word []
tokens_from place at word (b ∷ bs) =
    next_tokens (sign_at place b bs) b at word (λ w. tokens_from (place_behind place (sign_at place b bs)) (at + 1) w bs)

-- whether a word stands before the end of the logical line
abbrev pub has_word : List Token → Bool
has_word [] = false
has_word (TheWord word ∷ tokens) = true
has_word (Joined ∷ tokens) = has_word tokens
has_word (Ended ∷ tokens) = false

-- the words up to the end of the logical line
abbrev pub words_of : List Token → List TextWord
words_of [] = []
words_of (TheWord word ∷ tokens) = word ∷ words_of tokens
words_of (Joined ∷ tokens) = words_of tokens
words_of (Ended ∷ tokens) = []

abbrev pub words_at : Place → ℕ → List ℕ → List TextWord
words_at place start bytes = words_of (tokens_from place start None bytes)

abbrev pub is_part : Sign → Bool
is_part Part = true
is_part _ = false

-- how many bytes of a word of several bytes stand at the front
abbrev pub part_len : List ℕ → ℕ
part_len [] = 0
part_len (b ∷ bs) = if is_part (text_sign b bs) then part_len bs + 1 else 0
