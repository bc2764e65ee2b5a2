use Rattle.std.proofs.Common.{◌≡◌, ◌+◌, ◌==◌, ◌&&◌, ℕ, Bool, true, false, not, if◌then◌else◌, List, [], ◌∷◌, ◌++◌, length, map, Option, Some, None, refl, sym, ap, ◌∙◌, subst, append_assoc}
use Rattle.std.specs.List.{flat_map, list_all, AllByRecursion}
use Rattle.std.specs.Option.{option_map}
use Rattle.std.proofs.lemmas.Bool.{and_parts, false≢true}
use Rattle.lex_core.specs.LogicalLines.{TextWord, text_word, LogicalLine, line_of, is_blank, is_alone, physical_lines, without_comment, trimmed, content, ends_with_backslash, is_continued, text_of, with_open, longer, words_from, line_words, joined_lines, logical_lines}
use Rattle.net_model.specs.Forms.{words_of}
use Rattle.printed_nets.specs.Lines.{is_plain_byte, ends_plainly, with_bytes, with_byte, words_behind, words_in, IsPlainLine}

-- The logical lines of a text whose lines are plain.

not_false : (b : Bool) → not b ≡ true → b ≡ false
not_false true e = absurd (false≢true e)
not_false false e = refl

-- the first physical line
pub first_line : (line rest : List ℕ) → list_all is_plain_byte line ≡ true → physical_lines (line ++ 10 ∷ rest) ≡ line ∷ physical_lines rest
first_line [] rest plain = refl
first_line (b ∷ line) rest plain =
    let parts = and_parts (is_plain_byte b) (list_all is_plain_byte line) plain in
    let here : (b == 10) ≡ false = not_false (b == 10) (and_parts _ _ parts.0).0 in
    rw here (rw (first_line line rest parts.1) refl)

-- it has no comment
no_comment : (line : List ℕ) → list_all is_plain_byte line ≡ true → without_comment line ≡ line
no_comment [] plain = refl
no_comment (b ∷ line) plain =
    let parts = and_parts (is_plain_byte b) (list_all is_plain_byte line) plain in
    let here : (b == 35) ≡ false = not_false (b == 35) (and_parts _ _ parts.0).1 in
    rw here (ap (λ bs. b ∷ bs) (no_comment line parts.1))

-- no blanks at its end
no_blanks : (line : List ℕ) → ends_plainly line ≡ true → trimmed line ≡ line
no_blanks [] ends = refl
no_blanks (b ∷ []) ends =
    let here : is_blank b ≡ false = not_false (is_blank b) (and_parts _ _ ends).0 in
    rw here refl
no_blanks (b ∷ c ∷ line) ends = rw (no_blanks (c ∷ line) ends) (blank_first (is_blank b))
  where
    blank_first : (blank : Bool) → (if blank && false then [] else b ∷ c ∷ line) ≡ b ∷ c ∷ line
    blank_first true = refl
    blank_first false = refl

-- and no backslash there
no_backslash : (line : List ℕ) → ends_plainly line ≡ true → ends_with_backslash line ≡ false
no_backslash [] ends = refl
no_backslash (b ∷ []) ends = not_false (b == 92) (and_parts _ _ ends).1
no_backslash (b ∷ c ∷ line) ends = no_backslash (c ∷ line) ends

plain_content : (line : List ℕ) → IsPlainLine line → content line ≡ line
plain_content line plain = ap trimmed (no_comment line plain.plain) ∙ no_blanks line plain.ends

not_continued : (line : List ℕ) → IsPlainLine line → is_continued line ≡ false
not_continued line plain = ap ends_with_backslash (plain_content line plain) ∙ no_backslash line plain.ends

plain_text : (line : List ℕ) → IsPlainLine line → text_of line ≡ line
plain_text line plain = rw (not_continued line plain) (plain_content line plain)

-- the bytes of words
abbrev pub bytes_of : List TextWord → List (List ℕ)
bytes_of words = map (λ word. word.bytes) words

abbrev pub bytes_open : Option TextWord → Option (List ℕ)
bytes_open word = option_map (λ w. w.bytes) word

open_bytes : (word : Option TextWord) (words : List TextWord) → bytes_of (with_open word words) ≡ with_bytes (bytes_open word) (bytes_of words)
open_bytes None words = refl
open_bytes (Some word) words = refl

longer_bytes : (at : ℕ) (word : Option TextWord) (b : ℕ) → bytes_open (longer at word b) ≡ Some (with_byte (bytes_open word) b)
longer_bytes at None b = refl
longer_bytes at (Some word) b = refl

pub words_bytes : (at : ℕ) (word : Option TextWord) (bytes : List ℕ) → bytes_of (words_from at word bytes) ≡ words_behind (bytes_open word) bytes
words_bytes at word [] = open_bytes word []
words_bytes at word (b ∷ bs) =
    elim (is_blank b) as (λ blank.
    bytes_of (if blank then with_open word (words_from (at + 1) None bs) else (if is_alone b then with_open word (text_word at (b ∷ []) ∷ words_from (at + 1) None bs) else words_from (at + 1) (longer at word b) bs))
    ≡ (if blank then with_bytes (bytes_open word) (words_behind None bs) else (if is_alone b then with_bytes (bytes_open word) ((b ∷ []) ∷ words_behind None bs) else words_behind (Some (with_byte (bytes_open word) b)) bs))) [
      | true ↦ open_bytes word (words_from (at + 1) None bs) ∙ ap (with_bytes (bytes_open word)) (words_bytes (at + 1) None bs)
      | false ↦ elim (is_alone b) as (λ alone.
          bytes_of (if alone then with_open word (text_word at (b ∷ []) ∷ words_from (at + 1) None bs) else words_from (at + 1) (longer at word b) bs)
          ≡ (if alone then with_bytes (bytes_open word) ((b ∷ []) ∷ words_behind None bs) else words_behind (Some (with_byte (bytes_open word) b)) bs)) [
            | true ↦ open_bytes word (text_word at (b ∷ []) ∷ words_from (at + 1) None bs) ∙ ap (λ ws. with_bytes (bytes_open word) ((b ∷ []) ∷ ws)) (words_bytes (at + 1) None bs)
            | false ↦ words_bytes (at + 1) (longer at word b) bs ∙ ap (λ w. words_behind w bs) (longer_bytes at word b)
          ]
    ]

-- a plain line has a word
data HasWord : List (List ℕ) → Type 0 where
  has_word : (first : List ℕ) (words : List (List ℕ)) → HasWord (first ∷ words)

with_has : (word : Option (List ℕ)) (words : List (List ℕ)) → HasWord words → HasWord (with_bytes word words)
with_has None words h = h
with_has (Some word) words h = has_word word words

some_has : (word : List ℕ) (bytes : List ℕ) → HasWord (words_behind (Some word) bytes)
some_has word [] = has_word word []
some_has word (b ∷ bs) =
    elim (is_blank b) as (λ blank. HasWord (if blank then word ∷ words_behind None bs else (if is_alone b then word ∷ (b ∷ []) ∷ words_behind None bs else words_behind (Some (word ++ b ∷ [])) bs))) [
      | true ↦ has_word word (words_behind None bs)
      | false ↦ elim (is_alone b) as (λ alone. HasWord (if alone then word ∷ (b ∷ []) ∷ words_behind None bs else words_behind (Some (word ++ b ∷ [])) bs)) [
        | true ↦ has_word word ((b ∷ []) ∷ words_behind None bs)
        | false ↦ some_has (word ++ b ∷ []) bs
      ]
    ]

-- where the first byte isn't blank
unblank_has : (b : ℕ) (bs : List ℕ) → HasWord (if is_alone b then (b ∷ []) ∷ words_behind None bs else words_behind (Some (b ∷ [])) bs)
unblank_has b bs =
    elim (is_alone b) as (λ alone. HasWord (if alone then (b ∷ []) ∷ words_behind None bs else words_behind (Some (b ∷ [])) bs)) [
      | true ↦ has_word (b ∷ []) (words_behind None bs)
      | false ↦ some_has (b ∷ []) bs
    ]

none_has : (bytes : List ℕ) → ends_plainly bytes ≡ true → HasWord (words_behind None bytes)
none_has [] ends = absurd (false≢true ends)
none_has (b ∷ []) ends =
    let here : is_blank b ≡ false = not_false (is_blank b) (and_parts _ _ ends).0 in
    rw here (unblank_has b [])
none_has (b ∷ c ∷ bs) ends =
    let rest = none_has (c ∷ bs) ends in
    elim (is_blank b) as (λ blank. HasWord (if blank then words_behind None (c ∷ bs) else (if is_alone b then (b ∷ []) ∷ words_behind None (c ∷ bs) else words_behind (Some (b ∷ [])) (c ∷ bs)))) [
      | true ↦ rest
      | false ↦ unblank_has b (c ∷ bs)
    ]

-- so it is a logical line
one_line : (number : ℕ) (words : List TextWord) → HasWord (bytes_of words) → map words_of (line_of number words) ≡ bytes_of words ∷ []
one_line number [] h = elim h [ ]
one_line number (word ∷ words) h = refl

-- the lines of a text, each ended by a line feed
abbrev pub joined : List (List ℕ) → List ℕ
joined lines = flat_map (λ line. line ++ 10 ∷ []) lines

map_append : (xs ys : List LogicalLine) → map words_of (xs ++ ys) ≡ map words_of xs ++ map words_of ys
map_append [] ys = refl
map_append (x ∷ xs) ys = ap (λ l. words_of x ∷ l) (map_append xs ys)

lines_from : (lines : List (List ℕ)) (now start : ℕ) → AllByRecursion IsPlainLine lines → map words_of (joined_lines now now start [] (physical_lines (joined lines))) ≡ map words_in lines
lines_from [] now start plain = refl
lines_from (line ∷ lines) now start (here, plain) =
    let cut : physical_lines (joined (line ∷ lines)) ≡ line ∷ physical_lines (joined lines) =
    ap physical_lines (append_assoc line (10 ∷ []) (joined lines)) ∙ first_line line (joined lines) here.plain in
    let words : bytes_of (line_words start line) ≡ words_in line = ap (λ t. bytes_of (words_from start None t)) (plain_text line here) ∙ words_bytes start None line in
    let some : HasWord (bytes_of (line_words start line)) = subst HasWord (sym words) (none_has line here.ends) in
    let step : joined_lines now now start [] (line ∷ physical_lines (joined lines)) ≡ line_of now (line_words start line) ++ joined_lines (now + 1) (now + 1) (start + length line + 1) [] (physical_lines (joined lines)) = rw (not_continued line here) refl in
    ap (λ ls. map words_of (joined_lines now now start [] ls)) cut
    ∙ (ap (map words_of) step
    ∙ (map_append (line_of now (line_words start line)) _
    ∙ (ap (λ ws. ws ++ map words_of (joined_lines (now + 1) (now + 1) (start + length line + 1) [] (physical_lines (joined lines)))) (one_line now (line_words start line) some)
    ∙ (ap (λ ws. ws ∷ map words_of (joined_lines (now + 1) (now + 1) (start + length line + 1) [] (physical_lines (joined lines)))) words
    ∙ ap (λ ls. words_in line ∷ ls) (lines_from lines (now + 1) (start + length line + 1) plain)))))

pub plain_lines : (lines : List (List ℕ)) → AllByRecursion IsPlainLine lines → map words_of (logical_lines (joined lines)) ≡ map words_in lines
plain_lines lines plain = lines_from lines 1 0 plain
