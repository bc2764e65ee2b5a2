use Rattle.std.proofs.Common.{◌≡◌, ℕ, ◌+◌, ◌<◌, true, false, List, [], ◌∷◌, ◌++◌, length, take, drop, get_or, Option, None, Some, refl, sym, ◌∙◌, ap, subst, suc, add-one, add-zero, arith}
use Rattle.std.specs.Prelude.{◌==◌, if◌then◌else◌}
use Rattle.std.proofs.lemmas.List.{append_assoc, append-nil}
use Rattle.lex_core.specs.declared.sign.Place.{Place}
use Rattle.lex_core.specs.declared.sign.Place.TheVariants.{InText, InComment, BehindMark}
use Rattle.lex_core.specs.declared.sign.Sign.{Sign}
use Rattle.lex_core.specs.declared.sign.Sign.TheVariants.{Part, Alone, Gap, Hash, Mark, Join, End}
use Rattle.lex_core.specs.LogicalLines.{TextWord, text_word, longer, line_of}
use Rattle.lex_core.specs.Signs.{text_sign, sign_at, place_behind}
use Rattle.lex_core.specs.Tokens.{Token, TheWord, Joined, Ended, next_tokens, tokens_from, words_of, words_at, has_word, is_part, part_len}
use Rattle.lex_core.specs.Forward.{lines_from, lines_at, line_at, lines_after}

-- The words and lines at the front of a text.

pub is_part-true : (s : Sign) → is_part s ≡ true → s ≡ Part
is_part-true Part is = refl
is_part-true Alone is = cc
is_part-true Gap is = cc
is_part-true Hash is = cc
is_part-true Mark is = cc
is_part-true Join is = cc
is_part-true End is = cc

-- a byte of a word goes to the open word
pub part_opens : (s : Sign) (place : Place) (b at : ℕ) (word : Option TextWord) (bs : List ℕ) → s ≡ Part
    → next_tokens s b at word (λ w. tokens_from (place_behind place s) (at + 1) w bs) ≡ tokens_from place (at + 1) (longer at word b) bs
part_opens Part place b at word bs is = refl
part_opens Alone place b at word bs is = cc
part_opens Gap place b at word bs is = cc
part_opens Hash place b at word bs is = cc
part_opens Mark place b at word bs is = cc
part_opens Join place b at word bs is = cc
part_opens End place b at word bs is = cc

-- every other byte closes it
pub other_closes : (s : Sign) (b at : ℕ) (word : TextWord) (more : Option TextWord → List Token) → is_part s ≡ false
    → next_tokens s b at (Some word) more ≡ TheWord word ∷ next_tokens s b at None more
other_closes Part b at word more is = cc
other_closes Alone b at word more is = refl
other_closes Gap b at word more is = refl
other_closes Hash b at word more is = refl
other_closes Mark b at word more is = refl
other_closes Join b at word more is = refl
other_closes End b at word more is = refl

-- the byte before the front joins the word
pub regroup : (n at b : ℕ) (word : TextWord) (bs : List ℕ)
    → TheWord (text_word word.start ((word.bytes ++ b ∷ []) ++ take n bs)) ∷ tokens_from InText (at + 1 + n) None (drop n bs)
    ≡ TheWord (text_word word.start (word.bytes ++ take (n + 1) (b ∷ bs))) ∷ tokens_from InText (at + (n + 1)) None (drop (n + 1) (b ∷ bs))
regroup n at b word bs =
    let place : at + 1 + n ≡ at + suc n = omega arith in
    rw (add-one n) (rw (append_assoc, place) refl)

-- an open word takes the bytes of it that stand at the front, and is closed behind them
pub word_grows : (bs : List ℕ) (at : ℕ) (word : TextWord)
    → tokens_from InText at (Some word) bs
    ≡ TheWord (text_word word.start (word.bytes ++ take (part_len bs) bs)) ∷ tokens_from InText (at + part_len bs) None (drop (part_len bs) bs)
word_grows [] at word = rw append-nil refl
word_grows (b ∷ bs) at word =
    elim (is_part (text_sign b bs)) as (λ p. is_part (text_sign b bs) ≡ p
    → tokens_from InText at (Some word) (b ∷ bs)
    ≡ TheWord (text_word word.start (word.bytes ++ take (if p then part_len bs + 1 else 0) (b ∷ bs)))
    ∷ tokens_from InText (at + (if p then part_len bs + 1 else 0)) None (drop (if p then part_len bs + 1 else 0) (b ∷ bs))) [
      | true ↦ λ is.
          part_opens (text_sign b bs) InText b at (Some word) bs (is_part-true (text_sign b bs) is)
          ∙ (word_grows bs (at + 1) (text_word word.start (word.bytes ++ b ∷ [])) ∙ regroup (part_len bs) at b word bs)
      | false ↦ λ is.
          other_closes (text_sign b bs) b at word (λ w. tokens_from (place_behind InText (text_sign b bs)) (at + 1) w bs) is
          ∙ sym (rw (append-nil, add-zero at) refl)
    ] refl

-- the word of several bytes at the front
pub part_tokens : (b at : ℕ) (bs : List ℕ) → text_sign b bs ≡ Part
    → tokens_from InText at None (b ∷ bs)
    ≡ TheWord (text_word at (take (part_len (b ∷ bs)) (b ∷ bs))) ∷ tokens_from InText (at + part_len (b ∷ bs)) None (drop (part_len (b ∷ bs)) (b ∷ bs))
part_tokens b at bs is =
    let P : ℕ → Type 0 = λ n. tokens_from InText at None (b ∷ bs)
    ≡ TheWord (text_word at (take n (b ∷ bs))) ∷ tokens_from InText (at + n) None (drop n (b ∷ bs)) in
    subst P (sym (ap (λ s. if is_part s then part_len bs + 1 else 0) is))
    (part_opens (text_sign b bs) InText b at None bs is
    ∙ (word_grows bs (at + 1) (text_word at (b ∷ [])) ∙ regroup (part_len bs) at b (text_word at []) bs))

abbrev PartWord : Place → ℕ → List ℕ → Type 0
PartWord place at left =
    words_at place at left
    ≡ text_word at (take (part_len left) left) ∷ words_at place (at + part_len left) (drop (part_len left) left)

part_word_at : (place : Place) (at b : ℕ) (bs : List ℕ) → sign_at place b bs ≡ Part → PartWord place at (b ∷ bs)
part_word_at InText at b bs is = ap words_of (part_tokens b at bs is)
part_word_at InComment at b bs is =
    elim (b == 10) as (λ t. (if t then End else Gap) ≡ Part → PartWord InComment at (b ∷ bs)) [ true ↦ λ no_part. cc | false ↦ λ no_part. cc ] is
part_word_at BehindMark at b bs is =
    elim (b == 10) as (λ t. (if t then Join else Gap) ≡ Part → PartWord BehindMark at (b ∷ bs)) [ true ↦ λ no_part. cc | false ↦ λ no_part. cc ] is

-- the words of a line that begins with a byte of a longer word
pub part_word : (place : Place) (at : ℕ) (left more : List ℕ) → 0 < length left → more ≡ drop 1 left
    → sign_at place (get_or left 0 0) more ≡ Part → PartWord place at left
part_word place at [] more some rest is = absurd (omega arith)
part_word place at (b ∷ bs) more some rest is =
    let P : List ℕ → Type 0 = λ l. sign_at place b l ≡ Part in
    part_word_at place at b bs (subst P rest is)

-- a word that is open changes nothing behind the line
pub after_open_word : (place : Place) (at now : ℕ) (word : TextWord) (bs : List ℕ)
    → lines_after now (tokens_from place at (Some word) bs) ≡ lines_after now (tokens_from place at None bs)
after_open_word place at now word [] = refl
after_open_word place at now word (b ∷ bs) =
    elim (sign_at place b bs) as (λ s. lines_after now (next_tokens s b at (Some word) (λ w. tokens_from (place_behind place s) (at + 1) w bs))
    ≡ lines_after now (next_tokens s b at None (λ w. tokens_from (place_behind place s) (at + 1) w bs))) [
      | Part ↦ after_open_word place (at + 1) now (text_word word.start (word.bytes ++ b ∷ [])) bs ∙ sym (after_open_word place (at + 1) now (text_word at (b ∷ [])) bs)
      | Alone ↦ refl
      | Gap ↦ refl
      | Hash ↦ refl
      | Mark ↦ refl
      | Join ↦ refl
      | End ↦ refl
    ]

-- an open word is a word of the line
pub has_open_word : (place : Place) (at : ℕ) (word : TextWord) (bs : List ℕ) → has_word (tokens_from place at (Some word) bs) ≡ true
has_open_word place at word [] = refl
has_open_word place at word (b ∷ bs) =
    elim (sign_at place b bs) as (λ s. has_word (next_tokens s b at (Some word) (λ w. tokens_from (place_behind place s) (at + 1) w bs)) ≡ true) [
      | Part ↦ has_open_word place (at + 1) (text_word word.start (word.bytes ++ b ∷ [])) bs
      | Alone ↦ refl
      | Gap ↦ refl
      | Hash ↦ refl
      | Mark ↦ refl
      | Join ↦ refl
      | End ↦ refl
    ]

-- the open line ends, and the others come behind it
pub lines_split : (first now : ℕ) (words : List TextWord) (tokens : List Token)
    → lines_from first now words tokens ≡ line_of first (words ++ words_of tokens) ++ lines_after now tokens
lines_split first now words [] =
    sym (append-nil (line_of first (words ++ [])) ∙ ap (line_of first) (append-nil words))
lines_split first now words (TheWord word ∷ tokens) = lines_split first now (words ++ word ∷ []) tokens ∙ rw append_assoc refl
lines_split first now words (Joined ∷ tokens) = lines_split first (now + 1) words tokens
lines_split first now words (Ended ∷ tokens) = rw append-nil refl

pub line_with_word : (number : ℕ) (tokens : List Token) → has_word tokens ≡ true
    → line_of number (words_of tokens) ≡ record { number = number; words = words_of tokens } ∷ []
line_with_word number [] is = cc
line_with_word number (TheWord word ∷ tokens) is = refl
line_with_word number (Joined ∷ tokens) is = line_with_word number tokens is
line_with_word number (Ended ∷ tokens) is = cc

pub no_line_without_word : (number : ℕ) (tokens : List Token) → has_word tokens ≡ false → line_of number (words_of tokens) ≡ []
no_line_without_word number [] is = refl
no_line_without_word number (TheWord word ∷ tokens) is = cc
no_line_without_word number (Joined ∷ tokens) is = no_line_without_word number tokens is
no_line_without_word number (Ended ∷ tokens) is = refl

-- a line with a word comes before those behind it
pub line_comes : (number start : ℕ) (bs : List ℕ) → has_word (tokens_from InText start None bs) ≡ true
    → lines_at number start bs ≡ line_at number start bs ∷ lines_after number (tokens_from InText start None bs)
line_comes number start bs is =
    lines_split number number [] (tokens_from InText start None bs)
    ∙ ap (λ line. line ++ lines_after number (tokens_from InText start None bs)) (line_with_word number (tokens_from InText start None bs) is)

-- a line without a word is skipped
pub line_skipped : (number start : ℕ) (bs : List ℕ) → has_word (tokens_from InText start None bs) ≡ false
    → lines_at number start bs ≡ lines_after number (tokens_from InText start None bs)
line_skipped number start bs is =
    lines_split number number [] (tokens_from InText start None bs)
    ∙ ap (λ line. line ++ lines_after number (tokens_from InText start None bs)) (no_line_without_word number (tokens_from InText start None bs) is)

-- a byte of a word changes nothing behind the line
pub part_lines : (place : Place) (at now : ℕ) (left more : List ℕ) → 0 < length left → more ≡ drop 1 left
    → sign_at place (get_or left 0 0) more ≡ Part
    → lines_after now (tokens_from place at None left) ≡ lines_after now (tokens_from place (at + 1) None more)
part_lines place at now [] more some rest is = absurd (omega arith)
part_lines place at now (b ∷ bs) more some rest is =
    let P : List ℕ → Type 0 = λ l. sign_at place b l ≡ Part in
    ap (lines_after now) (part_opens (sign_at place b bs) place b at None bs (subst P rest is))
    ∙ (after_open_word place (at + 1) now (text_word at (b ∷ [])) bs ∙ ap (λ l. lines_after now (tokens_from place (at + 1) None l)) (sym rest))

-- a line with a byte of a word has a word
pub part_has_word : (place : Place) (at : ℕ) (left more : List ℕ) → 0 < length left → more ≡ drop 1 left
    → sign_at place (get_or left 0 0) more ≡ Part → has_word (tokens_from place at None left) ≡ true
part_has_word place at [] more some rest is = absurd (omega arith)
part_has_word place at (b ∷ bs) more some rest is =
    let P : List ℕ → Type 0 = λ l. sign_at place b l ≡ Part in
    ap has_word (part_opens (sign_at place b bs) place b at None bs (subst P rest is))
    ∙ has_open_word place (at + 1) (text_word at (b ∷ [])) bs
