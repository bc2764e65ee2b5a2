-- What the words of a text are made of.
use Rattle.std.proofs.Common.{◌≡◌, ℕ, ◌+◌, Bool, true, false, not, List, [], ◌∷◌, ◌++◌, length, Option, None, Some, refl, subst, arith}
use Rattle.std.specs.Prelude.{◌==◌, ◌&&◌, if◌then◌else◌, nat_lt}
use Rattle.std.specs.List.{AllByRecursion, list_all}
use Rattle.std.proofs.lemmas.Bool.{and_parts, and_from, or_right, lt-ltb}
use Rattle.std.proofs.lemmas.List.{length-append}
use Rattle.lex_core.specs.declared.sign.Place.{Place}
use Rattle.lex_core.specs.declared.sign.Place.TheVariants.{InText, InComment, BehindMark}
use Rattle.lex_core.specs.declared.sign.Sign.{Sign}
use Rattle.lex_core.specs.declared.sign.Sign.TheVariants.{Part, Alone, Gap, Hash, Mark, Join, End}
use Rattle.lex_core.specs.LogicalLines.{is_blank, is_alone, TextWord, text_word, longer, LogicalLine, line_of}
use Rattle.lex_core.specs.Signs.{no_more, sign_at, place_behind}
use Rattle.lex_core.specs.Tokens.{Token, TheWord, Joined, Ended, closed, next_tokens, tokens_from}
use Rattle.lex_core.specs.Forward.{lines_from}
use Rattle.lex_core.specs.TextWords.{is_word_byte, is_word, is_text_word, AreTextWords, HasTextWords}
use Rattle.lex_core.proofs.Agreement.{lines_at-text}

-- the tests of a byte, one after the other
abbrev sign_by : Bool → Bool → Bool → Bool → Bool → Sign
sign_by feed hash blank mark alone =
    if feed then End else (if hash then Hash else (if blank then Gap else (if mark then Mark else (if alone then Alone else Part))))

part_tests : (feed hash blank mark alone : Bool) → sign_by feed hash blank mark alone ≡ Part
    → (not blank && (not alone && (not feed && not hash))) ≡ true
part_tests false false false false false is = refl
part_tests true hash blank mark alone is = cc
part_tests false true blank mark alone is = cc
part_tests false false true mark alone is = cc
part_tests false false false true alone is = cc
part_tests false false false false true is = cc

alone_tests : (feed hash blank mark alone : Bool) → sign_by feed hash blank mark alone ≡ Alone → alone ≡ true
alone_tests false false false false true is = refl
alone_tests true hash blank mark alone is = cc
alone_tests false true blank mark alone is = cc
alone_tests false false true mark alone is = cc
alone_tests false false false true alone is = cc
alone_tests false false false false false is = cc

-- a byte of a longer word
part_byte : (place : Place) (b : ℕ) (bs : List ℕ) → sign_at place b bs ≡ Part → is_word_byte b ≡ true
part_byte InText b bs is = part_tests (b == 10) (b == 35) (is_blank b) ((b == 92) && no_more bs) (is_alone b) is
part_byte InComment b bs is = elim (b == 10) as (λ f. (if f then End else Gap) ≡ Part → is_word_byte b ≡ true) [ true ↦ λ e. cc | false ↦ λ e. cc ] is
part_byte BehindMark b bs is = elim (b == 10) as (λ f. (if f then Join else Gap) ≡ Part → is_word_byte b ≡ true) [ true ↦ λ e. cc | false ↦ λ e. cc ] is

-- a byte that is a word alone
alone_byte : (place : Place) (b : ℕ) (bs : List ℕ) → sign_at place b bs ≡ Alone → is_alone b ≡ true
alone_byte InText b bs is = alone_tests (b == 10) (b == 35) (is_blank b) ((b == 92) && no_more bs) (is_alone b) is
alone_byte InComment b bs is = elim (b == 10) as (λ f. (if f then End else Gap) ≡ Alone → is_alone b ≡ true) [ true ↦ λ e. cc | false ↦ λ e. cc ] is
alone_byte BehindMark b bs is = elim (b == 10) as (λ f. (if f then Join else Gap) ≡ Alone → is_alone b ≡ true) [ true ↦ λ e. cc | false ↦ λ e. cc ] is

-- a word of one byte, and one with a byte more

word_of_one : (b : ℕ) → is_word_byte b ≡ true → is_word (b ∷ []) ≡ true
word_of_one b is = rw is refl

all_push : (p : ℕ → Bool) (bytes : List ℕ) (b : ℕ) → list_all p bytes ≡ true → p b ≡ true → list_all p (bytes ++ b ∷ []) ≡ true
all_push p [] b all is = rw is refl
all_push p (c ∷ bytes) b all is =
    let parts = and_parts (p c) (list_all p bytes) all in
    and_from (p c) (list_all p (bytes ++ b ∷ [])) parts.0 (all_push p bytes b parts.1 is)

some_push : (bytes : List ℕ) (b : ℕ) → nat_lt 0 (length (bytes ++ b ∷ [])) ≡ true
some_push bytes b = lt-ltb 0 (length (bytes ++ b ∷ [])) (rw length-append (omega arith))

word_push : (bytes : List ℕ) (b : ℕ) → is_word bytes ≡ true → is_word_byte b ≡ true → is_word (bytes ++ b ∷ []) ≡ true
word_push bytes b word is =
    and_from (nat_lt 0 (length (bytes ++ b ∷ []))) (list_all is_word_byte (bytes ++ b ∷ [])) (some_push bytes b)
    (all_push is_word_byte bytes b (and_parts (nat_lt 0 (length bytes)) (list_all is_word_byte bytes) word).1 is)

-- what is known of the open word
abbrev IsOpen : Option TextWord → Type 0
IsOpen None = Unit {0}
IsOpen (Some word) = is_word word.bytes ≡ true

longer_open : (at b : ℕ) (word : Option TextWord) → is_word_byte b ≡ true → IsOpen word → IsOpen (longer at word b)
longer_open at b None is had = word_of_one b is
longer_open at b (Some word) is had = word_push word.bytes b had is

-- the words of tokens
abbrev HaveTextWords : List Token → Type 0
HaveTextWords [] = Unit {0}
HaveTextWords (TheWord word ∷ tokens) = (is_text_word word.bytes ≡ true) × HaveTextWords tokens
HaveTextWords (Joined ∷ tokens) = HaveTextWords tokens
HaveTextWords (Ended ∷ tokens) = HaveTextWords tokens

closed_made : (word : Option TextWord) (tokens : List Token) → IsOpen word → HaveTextWords tokens → HaveTextWords (closed word tokens)
closed_made None tokens is made = made
closed_made (Some word) tokens is made = (or_right _ (is_word word.bytes) is, made)

alone_made : (b : ℕ) → is_alone b ≡ true → is_text_word (b ∷ []) ≡ true
alone_made b is = rw is refl

tokens_made : (place : Place) (at : ℕ) (word : Option TextWord) (bytes : List ℕ) → IsOpen word → HaveTextWords (tokens_from place at word bytes)
tokens_made place at word [] is = closed_made word [] is tt
tokens_made place at word (b ∷ bs) is =
    elim (sign_at place b bs) as (λ s. sign_at place b bs ≡ s → HaveTextWords (next_tokens s b at word (λ w. tokens_from (place_behind place s) (at + 1) w bs))) [
      | Part ↦ λ sign. tokens_made place (at + 1) (longer at word b) bs (longer_open at b word (part_byte place b bs sign) is)
      | Alone ↦ λ sign. closed_made word (TheWord (text_word at (b ∷ [])) ∷ tokens_from place (at + 1) None bs) is
          (alone_made b (alone_byte place b bs sign), tokens_made place (at + 1) None bs tt)
      | Gap ↦ λ sign. closed_made word (tokens_from place (at + 1) None bs) is (tokens_made place (at + 1) None bs tt)
      | Hash ↦ λ sign. closed_made word (tokens_from InComment (at + 1) None bs) is (tokens_made InComment (at + 1) None bs tt)
      | Mark ↦ λ sign. closed_made word (tokens_from BehindMark (at + 1) None bs) is (tokens_made BehindMark (at + 1) None bs tt)
      | Join ↦ λ sign. closed_made word (Joined ∷ tokens_from InText (at + 1) None bs) is (tokens_made InText (at + 1) None bs tt)
      | End ↦ λ sign. closed_made word (Ended ∷ tokens_from InText (at + 1) None bs) is (tokens_made InText (at + 1) None bs tt)
    ] refl

-- and those of lines

abbrev LinesMade : List LogicalLine → Type 0
LinesMade lines = AllByRecursion (λ (line : LogicalLine). AreTextWords line.words) lines

words_push : (words : List TextWord) (word : TextWord) → AreTextWords words → is_text_word word.bytes ≡ true → AreTextWords (words ++ word ∷ [])
words_push [] word made is = (is, tt)
words_push (first ∷ words) word made is = (made.0, words_push words word made.1 is)

line_made : (number : ℕ) (words : List TextWord) (lines : List LogicalLine) → AreTextWords words → LinesMade lines → LinesMade (line_of number words ++ lines)
line_made number [] lines made more = more
line_made number (word ∷ words) lines made more = (made, more)

last_made : (number : ℕ) (words : List TextWord) → AreTextWords words → LinesMade (line_of number words)
last_made number [] made = tt
last_made number (word ∷ words) made = (made, tt)

lines_made : (first now : ℕ) (words : List TextWord) (tokens : List Token) → AreTextWords words → HaveTextWords tokens → LinesMade (lines_from first now words tokens)
lines_made first now words [] made have = last_made first words made
lines_made first now words (TheWord word ∷ tokens) made have = lines_made first now (words ++ word ∷ []) tokens (words_push words word made have.0) have.1
lines_made first now words (Joined ∷ tokens) made have = lines_made first (now + 1) words tokens made have
lines_made first now words (Ended ∷ tokens) made have =
    line_made first words (lines_from (now + 1) (now + 1) [] tokens) made (lines_made (now + 1) (now + 1) [] tokens tt have)

pub words_made : (text : List ℕ) → HasTextWords text
words_made text = subst LinesMade (lines_at-text text) (lines_made 1 1 [] (tokens_from InText 0 None text) tt (tokens_made InText 0 None text tt))
