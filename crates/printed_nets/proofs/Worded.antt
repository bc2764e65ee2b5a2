use Rattle.std.proofs.Common.{◌≡◌, ◌-◌, ◌<◌, ◌≤◌, ◌^◌, ◌==◌, ◌&&◌, ℕ, suc, Bool, true, false, not, if◌then◌else◌, List, [], ◌∷◌, ◌++◌, length, Option, Some, None, refl, sym, ap, ◌∙◌, arith, rules, tests, append_assoc, codes, decimal}
use Rattle.std.specs.Prelude.{nat_lt, slice_index}
use Rattle.std.specs.List.{flat_map, list_all, AllByRecursion, join_with_byte}
use Rattle.std.specs.Str.Parse.{AllDigits}
use Rattle.std.proofs.lemmas.Bool.{and_parts, false≢true}
use Rattle.std.proofs.lemmas.Bool.Decides.{nat_tests}
use Rattle.std.proofs.lemmas.List.{append-nil}
use Rattle.std.proofs.lemmas.Fmt.{decimal_is_IsNumeral}
use Rattle.std.proofs.lemmas.Str.Parse.{digit_from_value}
use Rattle.lex_core.specs.LogicalLines.{is_blank, is_alone}
use Rattle.net_model.specs.Forms.{ends_with_backslash}
use Rattle.net_model.specs.Written.{is_word_byte, is_word}
use Rattle.net_model.specs.Printed.{state_name}
use Rattle.printed_nets.specs.Lines.{is_plain_byte, ends_plainly, with_bytes, with_byte, words_behind, words_in, IsPlainLine}
use Rattle.printed_nets.specs.PrintedNets.{listed_words}

-- The words of a line are those of its fields.

-- a field of a line
pub record IsField (field : List ℕ) : Type 0 where
  pub plain : list_all is_plain_byte field ≡ true
  pub ends : ends_plainly field ≡ true

and_true : (a b : Bool) → a ≡ true → b ≡ true → (a && b) ≡ true
and_true a b e f = rw e f

all_append : (p : ℕ → Bool) (xs ys : List ℕ) → list_all p xs ≡ true → list_all p ys ≡ true → list_all p (xs ++ ys) ≡ true
all_append p [] ys e f = f
all_append p (x ∷ xs) ys e f =
    let parts = and_parts (p x) (list_all p xs) e in
    and_true (p x) (list_all p (xs ++ ys)) parts.0 (all_append p xs ys parts.1 f)

-- what ends plainly does so with more before it
ends_behind : (front back : List ℕ) → ends_plainly back ≡ true → ends_plainly (front ++ back) ≡ true
ends_behind [] back ends = ends
ends_behind (b ∷ front) back ends = more b (front ++ back) (ends_behind front back ends)
  where
    more : (c : ℕ) (bytes : List ℕ) → ends_plainly bytes ≡ true → ends_plainly (c ∷ bytes) ≡ true
    more c [] e = absurd (false≢true e)
    more c (d ∷ bytes) e = e

-- a line of fields is plain
pub join_plain : (field : List ℕ) (fields : List (List ℕ)) → AllByRecursion IsField (field ∷ fields) → IsPlainLine (join_with_byte 32 (field ∷ fields))
join_plain field [] (here, rest) = record { plain = here.plain; ends = here.ends }
join_plain field (next ∷ fields) (here, rest) =
    let more = join_plain next fields rest in
    record {
      plain = all_append is_plain_byte field (32 ∷ join_with_byte 32 (next ∷ fields)) here.plain more.plain;
      ends = ends_behind field (32 ∷ join_with_byte 32 (next ∷ fields)) (ends_behind (32 ∷ []) (join_with_byte 32 (next ∷ fields)) more.ends);
    }

with_append : (word : Option (List ℕ)) (words more : List (List ℕ)) → with_bytes word (words ++ more) ≡ with_bytes word words ++ more
with_append None words more = refl
with_append (Some word) words more = refl

-- words on both sides of what parts them: a blank, or a byte alone
module _ (c : ℕ) (back : List ℕ) (parts : List (List ℕ)) (apart : (word : Option (List ℕ)) → words_behind word (c ∷ back) ≡ with_bytes word parts) where
  pub parted_words : (word : Option (List ℕ)) (front : List ℕ) → words_behind word (front ++ c ∷ back) ≡ words_behind word front ++ parts
  parted_words word [] = apart word ∙ with_append word [] parts
  parted_words word (b ∷ front) =
      let after = parted_words None front in
      elim (is_blank b) as (λ blank.
      (if blank then with_bytes word (words_behind None (front ++ c ∷ back)) else (if is_alone b then with_bytes word ((b ∷ []) ∷ words_behind None (front ++ c ∷ back)) else words_behind (Some (with_byte word b)) (front ++ c ∷ back)))
      ≡ (if blank then with_bytes word (words_behind None front) else (if is_alone b then with_bytes word ((b ∷ []) ∷ words_behind None front) else words_behind (Some (with_byte word b)) front)) ++ parts) [
        | true ↦ ap (with_bytes word) after ∙ with_append word (words_behind None front) parts
        | false ↦ elim (is_alone b) as (λ alone.
            (if alone then with_bytes word ((b ∷ []) ∷ words_behind None (front ++ c ∷ back)) else words_behind (Some (with_byte word b)) (front ++ c ∷ back))
            ≡ (if alone then with_bytes word ((b ∷ []) ∷ words_behind None front) else words_behind (Some (with_byte word b)) front) ++ parts) [
              | true ↦ ap (λ ws. with_bytes word ((b ∷ []) ∷ ws)) after ∙ with_append word ((b ∷ []) ∷ words_behind None front) parts
              | false ↦ parted_words (Some (with_byte word b)) front
            ]
      ]

-- the words of fields with blanks between them
pub join_words : (fields : List (List ℕ)) → words_in (join_with_byte 32 fields) ≡ flat_map words_in fields
join_words [] = refl
join_words (field ∷ []) = sym (append-nil (words_in field))
join_words (field ∷ next ∷ fields) =
    parted_words 32 (join_with_byte 32 (next ∷ fields)) (words_in (join_with_byte 32 (next ∷ fields))) (λ word. refl) None field
    ∙ ap (λ ws. words_in field ++ ws) (join_words (next ∷ fields))

-- a word

not_false : (b : Bool) → not b ≡ true → b ≡ false
not_false true e = absurd (false≢true e)
not_false false e = refl

-- the bytes of a word are part of no other one
pub word_behind : (word bytes : List ℕ) → list_all is_word_byte bytes ≡ true → words_behind (Some word) bytes ≡ (word ++ bytes) ∷ []
word_behind word [] all = ap (λ w. w ∷ []) (sym (append-nil word))
word_behind word (b ∷ bytes) all =
    let parts = and_parts (is_word_byte b) (list_all is_word_byte bytes) all in
    let here = and_parts _ _ parts.0 in
    let blank : is_blank b ≡ false = not_false (is_blank b) here.0 in
    let alone : is_alone b ≡ false = not_false (is_alone b) (and_parts _ _ here.1).0 in
    rw blank (rw alone (word_behind (word ++ b ∷ []) bytes parts.1 ∙ ap (λ w. w ∷ []) (append_assoc word (b ∷ []) bytes)))

pub word_words : (word : List ℕ) → is_word word ≡ true → words_in word ≡ word ∷ []
word_words [] is = absurd (false≢true is)
word_words (b ∷ bytes) is =
    let parts = and_parts (is_word_byte b) (list_all is_word_byte bytes) (and_parts _ _ is).1 in
    let here = and_parts _ _ parts.0 in
    let blank : is_blank b ≡ false = not_false (is_blank b) here.0 in
    let alone : is_alone b ≡ false = not_false (is_alone b) (and_parts _ _ here.1).0 in
    rw blank (rw alone (word_behind (b ∷ []) bytes parts.1))

word_plain : (bytes : List ℕ) → list_all is_word_byte bytes ≡ true → list_all is_plain_byte bytes ≡ true
word_plain [] all = refl
word_plain (b ∷ bytes) all =
    let parts = and_parts (is_word_byte b) (list_all is_word_byte bytes) all in
    and_true (is_plain_byte b) (list_all is_plain_byte bytes) (and_parts _ _ (and_parts _ _ parts.0).1).1 (word_plain bytes parts.1)

last_more : (b c : ℕ) (bytes : List ℕ) → ends_with_backslash (b ∷ c ∷ bytes) ≡ ends_with_backslash (c ∷ bytes)
last_more b c bytes =
    let place : length (b ∷ c ∷ bytes) - 1 ≡ suc (length (c ∷ bytes) - 1) = omega arith in
    ap (λ k. slice_index (b ∷ c ∷ bytes) k == 92) place

word_ends : (bytes : List ℕ) → 0 < length bytes → list_all is_word_byte bytes ≡ true → ends_with_backslash bytes ≡ false → ends_plainly bytes ≡ true
word_ends [] some all last = absurd (omega arith)
word_ends (b ∷ []) some all last =
    let here = and_parts _ _ (and_parts (is_word_byte b) true all).0 in
    and_true (not (is_blank b)) (not (b == 92)) here.0 (ap not last)
word_ends (b ∷ c ∷ bytes) some all last =
    word_ends (c ∷ bytes) (omega arith) (and_parts (is_word_byte b) (list_all is_word_byte (c ∷ bytes)) all).1 (sym (last_more b c bytes) ∙ last)

some_bytes : (bytes : List ℕ) → is_word bytes ≡ true → 0 < length bytes
some_bytes [] is = absurd (false≢true is)
some_bytes (b ∷ bytes) is = omega arith

-- a word that ends with no backslash is a field
pub word_field : (word : List ℕ) → is_word word ≡ true → ends_with_backslash word ≡ false → IsField word
word_field word is last =
    let all = (and_parts _ _ is).1 in
    record { plain = word_plain word all; ends = word_ends word (some_bytes word is) all last }

-- numbers and the names of states

digit_in_word : (b : ℕ) → 48 ≤ b → b ≤ 57 → is_word_byte b ≡ true
digit_in_word b low high = search (rules, tests)

pub digits_in_word : (ds : List ℕ) → AllDigits 10 ds → list_all is_word_byte ds ≡ true
digits_in_word [] h = refl
digits_in_word (d ∷ ds) h =
    let range = digit_from_value d h.0 in
    and_true (is_word_byte d) (list_all is_word_byte ds) (digit_in_word d range.0 range.1) (digits_in_word ds h.1)

digits_end : (ds : List ℕ) → 0 < length ds → AllDigits 10 ds → ends_with_backslash ds ≡ false
digits_end [] some h = absurd (omega arith)
digits_end (d ∷ []) some h =
    let range = digit_from_value d h.0 in
    not_backslash d range.0 range.1
  where
    not_backslash : (b : ℕ) → 48 ≤ b → b ≤ 57 → (b == 92) ≡ false
    not_backslash b low high = search (rules, tests)
digits_end (d ∷ e ∷ ds) some h = last_more d e ds ∙ digits_end (e ∷ ds) (omega arith) h.1

some_test : (n : ℕ) → 0 < n → nat_lt 0 n ≡ true
some_test n some = grind (arith, nat_tests)

word_from : (bytes : List ℕ) → 0 < length bytes → list_all is_word_byte bytes ≡ true → is_word bytes ≡ true
word_from bytes some all = and_true (nat_lt 0 (length bytes)) (list_all is_word_byte bytes) (some_test (length bytes) some) all

pub decimal_word : (n : ℕ) → n < 2 ^ 64 → is_word (decimal n) ≡ true
decimal_word n few =
    let numeral = (decimal_is_IsNumeral n few).0 in
    word_from (decimal n) numeral.0 (digits_in_word (decimal n) numeral.1)

pub decimal_ends : (n : ℕ) → n < 2 ^ 64 → ends_with_backslash (decimal n) ≡ false
decimal_ends n few =
    let numeral = (decimal_is_IsNumeral n few).0 in
    digits_end (decimal n) numeral.0 numeral.1

pub decimal_field : (n : ℕ) → n < 2 ^ 64 → IsField (decimal n)
decimal_field n few = word_field (decimal n) (decimal_word n few) (decimal_ends n few)

pub state_word : (n : ℕ) → n < 2 ^ 64 → is_word (state_name n) ≡ true
state_word n few = word_from (state_name n) (omega arith) (and_parts _ _ (decimal_word n few)).1

pub state_ends : (n : ℕ) → n < 2 ^ 64 → ends_with_backslash (state_name n) ≡ false
state_ends n few = more (decimal n) (decimal_is_IsNumeral n few).0.0 (decimal_ends n few)
  where
    more : (bytes : List ℕ) → 0 < length bytes → ends_with_backslash bytes ≡ false → ends_with_backslash (115 ∷ bytes) ≡ false
    more [] some last = absurd (omega arith)
    more (b ∷ bytes) some last = last_more 115 b bytes ∙ last

pub state_field : (n : ℕ) → n < 2 ^ 64 → IsField (state_name n)
state_field n few = word_field (state_name n) (state_word n few) (state_ends n few)

-- a list in parentheses

-- words with a byte alone between them
alone_parts : (c : ℕ) (front back : List ℕ) → is_blank c ≡ false → is_alone c ≡ true → words_in (front ++ c ∷ back) ≡ words_in front ++ ((c ∷ []) ∷ words_in back)
alone_parts c front back blank alone = parted_words c back ((c ∷ []) ∷ words_in back) (λ word. rw blank (rw alone refl)) None front

commas_plain : (names : List (List ℕ)) → AllByRecursion (λ name. is_word name ≡ true) names → list_all is_plain_byte (join_with_byte 44 names) ≡ true
commas_plain [] all = refl
commas_plain (name ∷ []) (here, rest) = word_plain name (and_parts _ _ here).1
commas_plain (name ∷ next ∷ names) (here, rest) =
    all_append is_plain_byte name (44 ∷ join_with_byte 44 (next ∷ names)) (word_plain name (and_parts _ _ here).1) (commas_plain (next ∷ names) rest)

commas_words : (names : List (List ℕ)) → AllByRecursion (λ name. is_word name ≡ true) names → words_in (join_with_byte 44 names) ≡ listed_words names
commas_words [] all = refl
commas_words (name ∷ []) (here, rest) = word_words name here
commas_words (name ∷ next ∷ names) (here, rest) =
    alone_parts 44 name (join_with_byte 44 (next ∷ names)) refl refl
    ∙ (ap (λ ws. ws ++ (codes "," ∷ words_in (join_with_byte 44 (next ∷ names)))) (word_words name here)
    ∙ ap (λ ws. name ∷ codes "," ∷ ws) (commas_words (next ∷ names) rest))

abbrev pub list_field : List (List ℕ) → List ℕ
list_field names = codes "(" ++ (join_with_byte 44 names ++ codes ")")

pub list_is_field : (names : List (List ℕ)) → AllByRecursion (λ name. is_word name ≡ true) names → IsField (list_field names)
list_is_field names all = record {
  plain = all_append is_plain_byte (join_with_byte 44 names) (codes ")") (commas_plain names all) refl;
  ends = ends_behind (codes "(") (join_with_byte 44 names ++ codes ")") (ends_behind (join_with_byte 44 names) (codes ")") refl);
}

pub list_words : (names : List (List ℕ)) → AllByRecursion (λ name. is_word name ≡ true) names → words_in (list_field names) ≡ codes "(" ∷ (listed_words names ++ codes ")" ∷ [])
list_words names all =
    alone_parts 40 [] (join_with_byte 44 names ++ codes ")") refl refl
    ∙ ap (λ ws. codes "(" ∷ ws)
    (alone_parts 41 (join_with_byte 44 names) [] refl refl ∙ ap (λ ws. ws ++ (codes ")" ∷ [])) (commas_words names all))
