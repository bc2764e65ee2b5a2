use Rattle.std.proofs.Common.{◌≡◌, ◌≤◌, ◌<◌, ℕ, ◌+◌, ◌-◌, List, [], ◌∷◌, ◌++◌, length, drop, Option, None, Some, refl, sym, ◌∙◌, ap, subst, arith}
use Rattle.std.proofs.lemmas.List.{append_assoc, append-nil, drop-drop, length-append}
use Rattle.std.proofs.Math.Seq.{take-append_seam}
use Rattle.lex_core.specs.declared.sign.Place.{Place}
use Rattle.lex_core.specs.declared.sign.Place.TheVariants.{InText}
use Rattle.lex_core.specs.declared.sign.Sign.TheVariants.{Part, Alone, Gap, Hash, Mark, Join, End}
use Rattle.lex_core.specs.LogicalLines.{TextWord, text_word, longer, LogicalLine, line_of}
use Rattle.lex_core.specs.Signs.{sign_at, place_behind}
use Rattle.lex_core.specs.Tokens.{Token, TheWord, Joined, Ended, closed, next_tokens, tokens_from}
use Rattle.lex_core.specs.Forward.{lines_from}
use Rattle.lex_core.proofs.Agreement.{lines_at-text}
use Rattle.lex_core.specs.InOrder.{StandInOrder, words_of_lines, NumbersRise, WordsStandInOrder, LineNumbersRise}

-- Why the words of a text stand in order.

-- all words of these tokens
abbrev token_words : List Token → List TextWord
token_words [] = []
token_words (TheWord word ∷ tokens) = word ∷ token_words tokens
token_words (Joined ∷ tokens) = token_words tokens
token_words (Ended ∷ tokens) = token_words tokens

words_of_lines-append : (xs ys : List LogicalLine) → words_of_lines (xs ++ ys) ≡ words_of_lines xs ++ words_of_lines ys
words_of_lines-append [] ys = refl
words_of_lines-append (line ∷ xs) ys = rw (words_of_lines-append xs ys) (sym (rw append_assoc refl))

words_of_lines-line_of : (number : ℕ) (words : List TextWord) → words_of_lines (line_of number words) ≡ words
words_of_lines-line_of number [] = refl
words_of_lines-line_of number (word ∷ words) = rw append-nil refl

-- lines have the words of their tokens
words_of_lines-lines_from : (first now : ℕ) (words : List TextWord) (tokens : List Token)
    → words_of_lines (lines_from first now words tokens) ≡ words ++ token_words tokens
words_of_lines-lines_from first now words [] = words_of_lines-line_of first words ∙ sym (rw append-nil refl)
words_of_lines-lines_from first now words (TheWord word ∷ tokens) =
    words_of_lines-lines_from first now (words ++ word ∷ []) tokens ∙ rw append_assoc refl
words_of_lines-lines_from first now words (Joined ∷ tokens) = words_of_lines-lines_from first (now + 1) words tokens
words_of_lines-lines_from first now words (Ended ∷ tokens) =
    words_of_lines-append (line_of first words) (lines_from (now + 1) (now + 1) [] tokens)
    ∙ rw (words_of_lines-line_of first words, words_of_lines-lines_from (now + 1) (now + 1) [] tokens) refl

-- what is known of the open word before the byte `at`, with these bytes left
record IsOpenWord (text : List ℕ) (from at : ℕ) (left : List ℕ) (word : TextWord) : Type 0 where
  behind : from ≤ word.start
  some : 0 < length word.bytes
  ends : word.start + length word.bytes ≡ at
  front : drop word.start text ≡ word.bytes ++ left

abbrev IsOpen : List ℕ → ℕ → ℕ → List ℕ → Option TextWord → Type 0
IsOpen text from at left None = from ≤ at
IsOpen text from at left (Some word) = IsOpenWord text from at left word

-- words that stand behind one place stand behind an earlier one
stand_earlier : (text : List ℕ) (from at : ℕ) (words : List TextWord) → from ≤ at → StandInOrder text at words → StandInOrder text from words
stand_earlier text from at [] before stand = tt
stand_earlier text from at (word ∷ words) before stand =
    (record { behind = let behind = stand.0.behind in omega arith; some = stand.0.some; slice = stand.0.slice }, stand.1)

-- the open word stands in the text, and the others behind it
closed_stand : (text : List ℕ) (from at : ℕ) (left : List ℕ) (word : Option TextWord) (tokens : List Token) → IsOpen text from at left word
    → StandInOrder text at (token_words tokens) → StandInOrder text from (token_words (closed word tokens))
closed_stand text from at left None tokens before stand = stand_earlier text from at (token_words tokens) before stand
closed_stand text from at left (Some word) tokens is stand =
    let length_is : word.start + length word.bytes - word.start ≡ length word.bytes = omega arith in (
      record {
        behind = is.behind;
        some = is.some;
        slice = rw (length_is, is.front) (take-append_seam word.bytes left);
      },
      let P : ℕ → Type 0 = λ n. StandInOrder text n (token_words tokens) in subst P (sym is.ends) stand,
    )

-- the open word with one more byte
longer_open : (text : List ℕ) (from at b : ℕ) (bs : List ℕ) (word : Option TextWord) → drop at text ≡ b ∷ bs
    → IsOpen text from at (b ∷ bs) word → IsOpen text from (at + 1) bs (longer at word b)
longer_open text from at b bs None left before = record { behind = before; some = omega arith; ends = refl; front = left }
longer_open text from at b bs (Some word) left is = record {
  behind = is.behind;
  some = rw length-append (omega arith);
  ends = rw length-append (let ends = is.ends in omega arith);
  front = is.front ∙ sym (rw append_assoc refl);
}

-- the words of tokens stand in the text
tokens_stand : (text : List ℕ) (place : Place) (from at : ℕ) (word : Option TextWord) (left : List ℕ) → drop at text ≡ left
    → IsOpen text from at left word → StandInOrder text from (token_words (tokens_from place at word left))
tokens_stand text place from at word [] left is = closed_stand text from at [] word [] is tt
tokens_stand text place from at word (b ∷ bs) left is =
    let more : drop (at + 1) text ≡ bs = sym (drop-drop 1 at text) ∙ ap (drop 1) left in
    let before : at ≤ at + 1 = omega arith in
    let gap = λ (p : Place). closed_stand text from at (b ∷ bs) word (tokens_from p (at + 1) None bs) is (tokens_stand text p at (at + 1) None bs more before) in
    elim (sign_at place b bs) as (λ s. StandInOrder text from
    (token_words (next_tokens s b at word (λ w. tokens_from (place_behind place s) (at + 1) w bs)))) [
      | Part ↦ tokens_stand text place from (at + 1) (longer at word b) bs more (longer_open text from at b bs word left is)
      | Alone ↦ closed_stand text from at (b ∷ bs) word (TheWord (text_word at (b ∷ [])) ∷ tokens_from place (at + 1) None bs) is
          (closed_stand text at (at + 1) bs (Some (text_word at (b ∷ []))) (tokens_from place (at + 1) None bs)
          (record { behind = omega arith; some = omega arith; ends = refl; front = left })
          (tokens_stand text place (at + 1) (at + 1) None bs more (omega arith)))
      | Gap ↦ gap place
      | Hash ↦ gap (place_behind place Hash)
      | Mark ↦ gap (place_behind place Mark)
      | Join ↦ closed_stand text from at (b ∷ bs) word (Joined ∷ tokens_from InText (at + 1) None bs) is (tokens_stand text InText at (at + 1) None bs more before)
      | End ↦ closed_stand text from at (b ∷ bs) word (Ended ∷ tokens_from InText (at + 1) None bs) is (tokens_stand text InText at (at + 1) None bs more before)
    ]

pub words_stand : (text : List ℕ) → WordsStandInOrder text
words_stand text =
    let P : List LogicalLine → Type 0 = λ lines. StandInOrder text 0 (words_of_lines lines) in
    subst P (lines_at-text text)
    (rw (words_of_lines-lines_from 1 1 [] (tokens_from InText 0 None text)) (tokens_stand text InText 0 0 None text refl (omega arith)))

numbers_earlier : (from at : ℕ) (lines : List LogicalLine) → from ≤ at → NumbersRise at lines → NumbersRise from lines
numbers_earlier from at [] before rise = tt
numbers_earlier from at (line ∷ lines) before rise = (rise.0, (let low = rise.1 in omega arith), rise.2)

-- a line comes before lines with greater numbers
line_first : (from first above : ℕ) (words : List TextWord) (lines : List LogicalLine) → from ≤ first → first < above
    → NumbersRise above lines → NumbersRise from (line_of first words ++ lines)
line_first from first above [] lines low high rise = numbers_earlier from above lines (omega arith) rise
line_first from first above (word ∷ words) lines low high rise =
    (omega arith, low, numbers_earlier (first + 1) above lines (omega arith) rise)

numbers_rise : (from first now : ℕ) (words : List TextWord) (tokens : List Token) → from ≤ first → first ≤ now
    → NumbersRise from (lines_from first now words tokens)
numbers_rise from first now words [] low high =
    let P : List LogicalLine → Type 0 = λ lines. NumbersRise from lines in
    subst P (append-nil (line_of first words)) (line_first from first (first + 1) words [] low (omega arith) tt)
numbers_rise from first now words (TheWord word ∷ tokens) low high = numbers_rise from first now (words ++ word ∷ []) tokens low high
numbers_rise from first now words (Joined ∷ tokens) low high = numbers_rise from first (now + 1) words tokens low (omega arith)
numbers_rise from first now words (Ended ∷ tokens) low high =
    line_first from first (now + 1) words (lines_from (now + 1) (now + 1) [] tokens) low (omega arith)
    (numbers_rise (now + 1) (now + 1) (now + 1) [] tokens (omega arith) (omega arith))

pub lines_rise : (text : List ℕ) → LineNumbersRise text
lines_rise text =
    let P : List LogicalLine → Type 0 = λ lines. NumbersRise 1 lines in
    subst P (lines_at-text text) (numbers_rise 1 1 1 [] (tokens_from InText 0 None text) (omega arith) (omega arith))
