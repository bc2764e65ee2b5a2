-- Names of columns can stand in a text: those that lines give, and those with numbers.
use Rattle.std.proofs.Common.{◌≡◌, ◌<◌, ◌≤◌, ◌+◌, ◌-◌, ◌^◌, ◌==◌, ◌||◌, ◌++◌, ℕ, zero, suc, true, false, List, [], ◌∷◌, length, map, nat_lt, slice_index, decimal, refl, sym, ◌∙◌, ap, subst, arith}
use Rattle.std.specs.Int.{IsInRange}
use Rattle.std.specs.List.{AllByRecursion, list_all, range_with_len}
use Rattle.std.proofs.lemmas.Bool.{false≢true, and_parts, and_from, eqb-true, lt-ltb}
use Rattle.std.proofs.lemmas.Fmt.{decimal_nonempty, digits_decimal}
use Rattle.std.proofs.lemmas.Str.Parse.{numerals_by_value}
use Rattle.lex_core.specs.LogicalLines.{is_alone}
use Rattle.lex_core.specs.TextWords.{is_word_byte, is_word, is_text_word}
use Rattle.net_model.specs.Forms.{Name, is_name, ends_with_backslash}
use Rattle.net_model.specs.KissTexts.{numbered_names}
use Rattle.net_model.specs.Written.{IsTextName}

-- words of a text
abbrev pub Come : List Name → Type 0
Come words = AllByRecursion (λ word. is_text_word word ≡ true) words

-- a byte alone is no name
no_name_alone : (b : ℕ) → is_alone b ≡ true → is_name (b ∷ []) ≡ true → ⊥
no_name_alone b alone h =
    elim (b == 40) as (λ o. (b == 40) ≡ o → (o || ((b == 41) || (b == 44))) ≡ true → ⊥) [
      | true ↦ λ is any. false≢true (sym (ap (λ n. is_name (n ∷ [])) (eqb-true b 40 is)) ∙ h)
      | false ↦ λ differ any.
          elim (b == 41) as (λ o. (b == 41) ≡ o → (o || (b == 44)) ≡ true → ⊥) [
            | true ↦ λ is either. false≢true (sym (ap (λ n. is_name (n ∷ [])) (eqb-true b 41 is)) ∙ h)
            | false ↦ λ other is. false≢true (sym (ap (λ n. is_name (n ∷ [])) (eqb-true b 44 is)) ∙ h)
          ] refl any
    ] refl alone

name_word : (name : Name) → is_text_word name ≡ true → is_name name ≡ true → is_word name ≡ true
name_word [] h is = h
name_word (b ∷ []) h is =
    elim (is_alone b) as (λ a. is_alone b ≡ a → (a || is_word (b ∷ [])) ≡ true → is_word (b ∷ []) ≡ true) [
      | true ↦ λ alone word. absurd (no_name_alone b alone is)
      | false ↦ λ other word. word
    ] refl h
name_word (b ∷ c ∷ bytes) h is = h

-- words of a line that can be names
pub names_words : (names : List Name) → Come names → list_all is_name names ≡ true → AllByRecursion IsTextName names
names_words [] h is = tt
names_words (name ∷ names) h is =
    let parts = and_parts (is_name name) (list_all is_name names) is in
    (record { word = name_word name h.0 parts.0; name_is = parts.0 }, names_words names h.1 parts.1)

-- a letter and a number

abbrev AreDigits : List ℕ → Type 0
AreDigits bytes = AllByRecursion (λ b. IsInRange 48 57 b) bytes

other_byte : (b c : ℕ) → IsInRange 48 57 b → (IsInRange 48 57 c → ⊥) → (b == c) ≡ false
other_byte b c h differ =
    elim (b == c) as (λ e. (b == c) ≡ e → e ≡ false) [
      | true ↦ λ is. absurd (differ (subst (λ n. IsInRange 48 57 n) (eqb-true b c is) h))
      | false ↦ λ is. refl
    ] refl

digit_word_byte : (b : ℕ) → IsInRange 48 57 b → is_word_byte b ≡ true
digit_word_byte b h =
    rw (
      other_byte b 32 h (λ k. omega arith),
      other_byte b 9 h (λ k. omega arith),
      other_byte b 13 h (λ k. omega arith),
      other_byte b 40 h (λ k. omega arith),
      other_byte b 41 h (λ k. omega arith),
      other_byte b 44 h (λ k. omega arith),
      other_byte b 10 h (λ k. omega arith),
      other_byte b 35 h (λ k. omega arith),
    ) refl

digits_word_bytes : (bytes : List ℕ) → AreDigits bytes → list_all is_word_byte bytes ≡ true
digits_word_bytes [] h = refl
digits_word_bytes (b ∷ bytes) h = and_from (is_word_byte b) (list_all is_word_byte bytes) (digit_word_byte b h.0) (digits_word_bytes bytes h.1)

digit_at : (bytes : List ℕ) (k : ℕ) → AreDigits bytes → k < length bytes → IsInRange 48 57 (slice_index bytes k)
digit_at [] k h within = absurd (omega arith)
digit_at (b ∷ bytes) zero h within = h.0
digit_at (b ∷ bytes) (suc k) h within = digit_at bytes k h.1 (omega arith)

number_digits : (n : ℕ) → n < 2 ^ 64 → AreDigits (decimal n)
number_digits n few = digits_decimal (numerals_by_value AreDigits (record { empty = tt; parts = λ c cs h. h; more = λ c cs h k. (h, k) })) n few

no_backslash : (front : ℕ) (bytes : List ℕ) → AreDigits bytes → 0 < length bytes → ends_with_backslash (front ∷ bytes) ≡ false
no_backslash front [] h some = absurd (omega arith)
no_backslash front (b ∷ bytes) h some =
    let last : suc (suc (length bytes)) - 1 ≡ suc (length bytes) = omega arith in
    ap (λ k. slice_index (front ∷ b ∷ bytes) k == 92) last
    ∙ other_byte (slice_index (b ∷ bytes) (length bytes)) 92 (digit_at (b ∷ bytes) (length bytes) h (omega arith)) (λ k. omega arith)

-- a letter that can begin a name of several bytes
pub record IsFront (front : ℕ) : Type 0 where
  pub word : is_word_byte front ≡ true
  pub name : (bytes : List ℕ) → ends_with_backslash (front ∷ bytes) ≡ false → is_name (front ∷ bytes) ≡ true

pub x_front : IsFront 120
x_front = record { word = refl; name = λ bytes none. rw none refl }

pub z_front : IsFront 122
z_front = record { word = refl; name = λ bytes none. rw none refl }

number_name : (front n : ℕ) → IsFront front → n < 2 ^ 64 → IsTextName (front ∷ decimal n)
number_name front n h few = record {
  word = and_from (nat_lt 0 (length (front ∷ decimal n))) (list_all is_word_byte (front ∷ decimal n)) (lt-ltb 0 (length (front ∷ decimal n)) (omega arith))
      (and_from (is_word_byte front) (list_all is_word_byte (decimal n)) h.word (digits_word_bytes (decimal n) (number_digits n few)));
  name_is = h.name (decimal n) (no_backslash front (decimal n) (number_digits n few) (decimal_nonempty n few));
}

numbers_from : (front low n : ℕ) → IsFront front → low + n ≤ 256 → AllByRecursion IsTextName (map (λ k. (front ∷ []) ++ decimal k) (range_with_len low n))
numbers_from front low zero h few = tt
numbers_from front low (suc n) h few = (number_name front low h (omega arith), numbers_from front (low + 1) n h (omega arith))

pub numbers_names : (front n : ℕ) → IsFront front → n ≤ 256 → AllByRecursion IsTextName (numbered_names (front ∷ []) n)
numbers_names front n h few = numbers_from front 0 n h (omega (arith, few))
