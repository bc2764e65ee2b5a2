-- The variables of a text's network have names that are words, and some different values of such names.
use Rattle.std.proofs.Common.{◌≡◌, ◌<◌, ◌≤◌, ◌+◌, ◌-◌, ◌^◌, ◌==◌, ◌&&◌, ◌||◌, ◌++◌, ℕ, zero, suc, true, false, List, [], ◌∷◌, length, map, Some, None, unwrap_or, if◌then◌else◌, nat_lt, slice_index, decimal, refl, sym, ◌∙◌, ap, subst, arith}
use Rattle.std.specs.Int.{IsInRange}
use Rattle.std.specs.List.{AllByRecursion, list_any, list_all, flat_map, range_with_len}
use Rattle.std.proofs.lemmas.Bool.{false≢true, and_parts, and_from, eqb-true, lt-ltb, ltb-true}
use Rattle.std.proofs.lemmas.Bool.Decides.{nat_tests}
use Rattle.std.proofs.lemmas.Fmt.{decimal_nonempty, digits_decimal}
use Rattle.std.proofs.lemmas.List.FromFn.{length-map-range_with_len}
use Rattle.std.proofs.lemmas.Str.Parse.{numerals_by_value}
use Rattle.lex_core.specs.LogicalLines.{is_alone}
use Rattle.lex_core.specs.TextWords.{is_word_byte, is_word, is_text_word}
use Rattle.name_table.specs.Variables.{Variable, is_in, with_name, numbers, are_different}
use Rattle.name_table.proofs.Apart.{IsDomain-numbers}
use Rattle.net_model.specs.Forms.{Name, Form, ModelLine, InputsLine, OutputsLine, DomainsLine, TableLine, ResetLine, LatchLine, DefaultLine, EndLine, RowLine, is_name, is_value_name, ends_with_backslash, number_of, is_number, has_names}
use Rattle.net_model.specs.NetTexts.{mentions, distinct, names_in, domain_given, domain_in, variables_in, has_domains, LinesSay}
use Rattle.net_model.specs.Written.{IsTextName, IsTextValue, IsTextVariable}
use Rattle.blifmv_names.specs.Limits.{IsWithinLimits}
use Rattle.blifmv_names.specs.LineFaults.{has_many_values}
use Rattle.blifmv_names.proofs.Faultless.{neither}
use Rattle.blifmv_reader.proofs.LineWords.{IsWritten, text_written}

-- a name

-- a byte alone is no name
no_name_alone : (b : ℕ) → is_alone b ≡ true → is_name (b ∷ []) ≡ true → ⊥
no_name_alone b alone h =
    elim (b == 40) as (λ o. (b == 40) ≡ o → (o || ((b == 41) || (b == 44))) ≡ true → ⊥) [
      | true ↦ λ is any. false≢true (sym (ap (λ n. is_name (n ∷ [])) (eqb-true b 40 is)) ∙ h)
      | false ↦ λ differ any.
          elim (b == 41) as (λ o. (b == 41) ≡ o → (o || (b == 44)) ≡ true → ⊥) [
            | true ↦ λ is either. false≢true (sym (ap (λ n. is_name (n ∷ [])) (eqb-true b 41 is)) ∙ h)
            | false ↦ λ other is. false≢true (sym (ap (λ n. is_name (n ∷ [])) (eqb-true b 44 is)) ∙ h)
          ] refl any
    ] refl alone

-- a name on a line is a word of several bytes, or of one that can stand in such a word
name_word : (name : Name) → is_text_word name ≡ true → is_name name ≡ true → is_word name ≡ true
name_word [] h is = h
name_word (b ∷ []) h is =
    elim (is_alone b) as (λ a. is_alone b ≡ a → (a || is_word (b ∷ [])) ≡ true → is_word (b ∷ []) ≡ true) [
      | true ↦ λ alone word. absurd (no_name_alone b alone is)
      | false ↦ λ other word. word
    ] refl h
name_word (b ∷ c ∷ bytes) h is = h

names_words : (names : List Name) → AllByRecursion (λ name. is_text_word name ≡ true) names → list_all is_name names ≡ true → AllByRecursion IsTextName names
names_words [] h is = tt
names_words (name ∷ names) h is =
    let parts = and_parts (is_name name) (list_all is_name names) is in
    (record { word = name_word name h.0 parts.0; name_is = parts.0 }, names_words names h.1 parts.1)

values_words : (names : List Name) → AllByRecursion (λ name. is_text_word name ≡ true) names → list_all is_value_name names ≡ true → AllByRecursion IsTextValue names
values_words [] h is = tt
values_words (name ∷ names) h is =
    let parts = and_parts (is_value_name name) (list_all is_value_name names) is in
    let named = and_parts (is_name name) _ parts.0 in
    (record { word = name_word name h.0 named.0; name_is = parts.0 }, values_words names h.1 parts.1)

-- a number is the name of a value

abbrev AreDigits : List ℕ → Type 0
AreDigits bytes = AllByRecursion (λ b. IsInRange 48 57 b) bytes

other_byte : (b c : ℕ) → IsInRange 48 57 b → (IsInRange 48 57 c → ⊥) → (b == c) ≡ false
other_byte b c h differ =
    elim (b == c) as (λ e. (b == c) ≡ e → e ≡ false) [
      | true ↦ λ is. absurd (differ (subst (λ n. IsInRange 48 57 n) (eqb-true b c is) h))
      | false ↦ λ is. refl
    ] refl

digit_word_byte : (b : ℕ) → IsInRange 48 57 b → is_word_byte b ≡ true
digit_word_byte b h =
    rw (
      other_byte b 32 h (λ k. omega arith),
      other_byte b 9 h (λ k. omega arith),
      other_byte b 13 h (λ k. omega arith),
      other_byte b 40 h (λ k. omega arith),
      other_byte b 41 h (λ k. omega arith),
      other_byte b 44 h (λ k. omega arith),
      other_byte b 10 h (λ k. omega arith),
      other_byte b 35 h (λ k. omega arith),
    ) refl

digits_word_bytes : (bytes : List ℕ) → AreDigits bytes → list_all is_word_byte bytes ≡ true
digits_word_bytes [] h = refl
digits_word_bytes (b ∷ bytes) h = and_from (is_word_byte b) (list_all is_word_byte bytes) (digit_word_byte b h.0) (digits_word_bytes bytes h.1)

digit_at : (bytes : List ℕ) (k : ℕ) → AreDigits bytes → k < length bytes → IsInRange 48 57 (slice_index bytes k)
digit_at [] k h within = absurd (omega arith)
digit_at (b ∷ bytes) zero h within = h.0
digit_at (b ∷ bytes) (suc k) h within = digit_at bytes k h.1 (omega arith)

no_backslash : (bytes : List ℕ) → AreDigits bytes → 0 < length bytes → ends_with_backslash bytes ≡ false
no_backslash bytes h some = other_byte (slice_index bytes (length bytes - 1)) 92 (digit_at bytes (length bytes - 1) h (omega arith)) (λ k. omega arith)

digits_value_name : (bytes : List ℕ) → AreDigits bytes → 0 < length bytes → is_value_name bytes ≡ true
digits_value_name [] h some = absurd (omega arith)
digits_value_name (b ∷ bytes) h some =
    rw (
      no_backslash (b ∷ bytes) h some,
      other_byte b 44 h.0 (λ k. omega arith),
      other_byte b 40 h.0 (λ k. omega arith),
      other_byte b 41 h.0 (λ k. omega arith),
      other_byte b 45 h.0 (λ k. omega arith),
      other_byte b 46 h.0 (λ k. omega arith),
      other_byte b 33 h.0 (λ k. omega arith),
      other_byte b 61 h.0 (λ k. omega arith),
    ) refl

number_digits : (n : ℕ) → n < 2 ^ 64 → AreDigits (decimal n)
number_digits n few = digits_decimal (numerals_by_value AreDigits (record { empty = tt; parts = λ c cs h. h; more = λ c cs h k. (h, k) })) n few

number_value : (n : ℕ) → n < 2 ^ 64 → IsTextValue (decimal n)
number_value n few = record {
  word = and_from (nat_lt 0 (length (decimal n))) (list_all is_word_byte (decimal n)) (lt-ltb 0 (length (decimal n)) (decimal_nonempty n few)) (digits_word_bytes (decimal n) (number_digits n few));
  name_is = digits_value_name (decimal n) (number_digits n few) (decimal_nonempty n few);
}

numbers_values : (low n : ℕ) → low + n ≤ 131072 → AllByRecursion IsTextValue (map decimal (range_with_len low n))
numbers_values low zero few = tt
numbers_values low (suc n) few = (number_value low (omega arith), numbers_values (low + 1) n (omega arith))

-- a domain

record IsTextDomain (values : List Name) : Type 0 where
  values_are : AllByRecursion IsTextValue values
  some : 0 < length values
  few : length values ≤ 65536
  different : are_different values ≡ true

numbers_domain : (n : ℕ) → 0 < n → n ≤ 65536 → IsTextDomain (numbers n)
numbers_domain n some few =
    let domain = IsDomain-numbers n some (omega (arith, few)) in
    record {
      values_are = numbers_values 0 n (omega (arith, few));
      some = domain.some;
      few = rw (length-map-range_with_len decimal 0 n) few;
      different = domain.different;
    }

few_numbers : (n : ℕ) → nat_lt 65536 n ≡ false → n ≤ 65536
few_numbers n h = grind (arith, nat_tests)

few_counted : (m n : ℕ) → ((suc m == 0) || (suc m == n)) ≡ true → n ≤ 65536 → suc m ≤ 65536
few_counted m n counted few = grind (arith, nat_tests)

-- a line that gives a domain with so many values at most
given_domain : (names : List Name) (count : Name) (values : List Name) → IsWritten (DomainsLine names count values) → has_names (DomainsLine names count values) ≡ true → are_different values ≡ true → nat_lt 65536 (number_of count) ≡ false → IsTextDomain (domain_given count values)
given_domain names count [] written named different few =
    let counted = and_parts (is_number count) _ written.given.1 in
    let some : 0 < number_of count = ltb-true 0 (number_of count) (and_parts (nat_lt 0 (number_of count)) _ counted.1).0 in
    numbers_domain (number_of count) some (few_numbers (number_of count) few)
given_domain names count (value ∷ values) written named different few =
    let counted = and_parts (is_number count) _ written.given.1 in
    let as_many = (and_parts (nat_lt 0 (number_of count)) _ counted.1).1 in
    record {
      values_are = values_words (value ∷ values) written.given.0 (and_parts (list_all is_name names) (list_all is_value_name (value ∷ values)) named).1;
      some = omega arith;
      few = few_counted (length values) (number_of count) as_many (few_numbers (number_of count) few);
      different = different;
    }

-- the domain of a name is given by a line, or of two numbers
domains_are : (text : List Form) (domain : Name → List Name) → AllByRecursion IsWritten text → list_all has_names text ≡ true → list_all (has_domains domain) text ≡ true → list_any has_many_values text ≡ false → (name : Name) → IsTextDomain (domain_in text name)
domains_are [] domain written named given few name = numbers_domain 2 (omega arith) (omega arith)
domains_are (DomainsLine names count values ∷ text) domain written named given few name =
    let named_parts = and_parts (has_names (DomainsLine names count values)) (list_all has_names text) named in
    let given_parts = and_parts (has_domains domain (DomainsLine names count values)) (list_all (has_domains domain) text) given in
    let few_parts = neither (has_many_values (DomainsLine names count values)) (list_any has_many_values text) few in
    let here = given_domain names count values written.0 named_parts.0 (and_parts (are_different values) _ given_parts.0).0 few_parts.0 in
    elim (is_in names name) as (λ b. IsTextDomain (unwrap_or (if b then Some (domain_given count values) else None) (domain_in text name))) [
      | true ↦ here
      | false ↦ domains_are text domain written.1 named_parts.1 given_parts.1 few_parts.1 name
    ]
domains_are (ModelLine names ∷ text) domain written named given few name = domains_are text domain written.1 (and_parts _ (list_all has_names text) named).1 given few name
domains_are (InputsLine names ∷ text) domain written named given few name = domains_are text domain written.1 (and_parts _ (list_all has_names text) named).1 given few name
domains_are (OutputsLine names ∷ text) domain written named given few name = domains_are text domain written.1 (and_parts _ (list_all has_names text) named).1 given few name
domains_are (TableLine ins outs ∷ text) domain written named given few name = domains_are text domain written.1 (and_parts _ (list_all has_names text) named).1 given few name
domains_are (ResetLine ins outs ∷ text) domain written named given few name = domains_are text domain written.1 (and_parts _ (list_all has_names text) named).1 given few name
domains_are (LatchLine input output ∷ text) domain written named given few name = domains_are text domain written.1 (and_parts _ (list_all has_names text) named).1 given few name
domains_are (DefaultLine words ∷ text) domain written named given few name = domains_are text domain written.1 named given few name
domains_are (EndLine ∷ text) domain written named given few name = domains_are text domain written.1 named given few name
domains_are (RowLine words ∷ text) domain written named given few name = domains_are text domain written.1 named given few name

-- the names of a text

names_append : (names more : List Name) → AllByRecursion IsTextName names → AllByRecursion IsTextName more → AllByRecursion IsTextName (names ++ more)
names_append [] more h k = k
names_append (name ∷ names) more h k = (h.0, names_append names more h.1 k)

distinct_are : (had names : List Name) → AllByRecursion IsTextName had → AllByRecursion IsTextName names → AllByRecursion IsTextName (distinct had names)
distinct_are had [] h k = h
distinct_are had (name ∷ names) h k =
    distinct_are (with_name had name) names
    (elim (is_in had name) as (λ b. AllByRecursion IsTextName (if b then had else had ++ name ∷ [])) [ true ↦ h | false ↦ names_append had (name ∷ []) h (k.0, tt) ]) k.1

both : (ins outs : List Name) → (list_all is_name ins && list_all is_name outs) ≡ true → list_all is_name (ins ++ outs) ≡ true
both [] outs h = h
both (name ∷ ins) outs h =
    let parts = and_parts (list_all is_name (name ∷ ins)) (list_all is_name outs) h in
    let first = and_parts (is_name name) (list_all is_name ins) parts.0 in
    and_from (is_name name) (list_all is_name (ins ++ outs)) first.0 (both ins outs (rw (first.1, parts.1) refl))

form_names : (form : Form) → IsWritten form → has_names form ≡ true → AllByRecursion IsTextName (mentions form)
form_names (ModelLine names) written named = tt
form_names (InputsLine names) written named = names_words names written.names named
form_names (OutputsLine names) written named = names_words names written.names named
form_names (DomainsLine names count values) written named = names_words names written.names (and_parts (list_all is_name names) _ named).0
form_names (TableLine ins outs) written named = names_words (ins ++ outs) written.names (both ins outs named)
form_names (ResetLine ins outs) written named = names_words (ins ++ outs) written.names (both ins outs named)
form_names (LatchLine input output) written named =
    let parts = and_parts (is_name input) (is_name output) named in
    names_words (input ∷ output ∷ []) written.names (rw (parts.0, parts.1) refl)
form_names (DefaultLine words) written named = tt
form_names EndLine written named = tt
form_names (RowLine words) written named = tt

text_names : (text : List Form) → AllByRecursion IsWritten text → list_all has_names text ≡ true → AllByRecursion IsTextName (flat_map mentions text)
text_names [] written named = tt
text_names (form ∷ text) written named =
    let parts = and_parts (has_names form) (list_all has_names text) named in
    names_append (mentions form) (flat_map mentions text) (form_names form written.0 parts.0) (text_names text written.1 parts.1)

-- its variables

variables_are : (names : List Name) (domain : Name → List Name) → AllByRecursion IsTextName names → ((name : Name) → IsTextDomain (domain name)) → AllByRecursion IsTextVariable (map (λ name. record { name = name; values = domain name }) names)
variables_are [] domain h k = tt
variables_are (name ∷ names) domain h k =
    let given = k name in
    (record { name = h.0; values = given.values_are; some = given.some; different = given.different }, variables_are names domain h.1 k)

-- the variables of a text within the limits are such as a text can have
pub text_variables : (bytes : List ℕ) (text : List Form) → LinesSay bytes text → IsWithinLimits text → AllByRecursion IsTextVariable (variables_in text)
text_variables bytes text says within =
    let written = text_written bytes text says in
    variables_are (names_in text) (domain_in text) (distinct_are [] (flat_map mentions text) tt (text_names text written says.spelled))
    (domains_are text (domain_in text) written says.spelled says.domains within.values)

small_variables : (names : List Name) (domain : Name → List Name) → ((name : Name) → IsTextDomain (domain name)) → AllByRecursion (λ (v : Variable). length v.values ≤ 65536) (map (λ name. record { name = name; values = domain name }) names)
small_variables [] domain k = tt
small_variables (name ∷ names) domain k = ((k name).few, small_variables names domain k)

-- and none of them has too many values
pub text_small : (bytes : List ℕ) (text : List Form) → LinesSay bytes text → IsWithinLimits text → AllByRecursion (λ (v : Variable). length v.values ≤ 65536) (variables_in text)
text_small bytes text says within =
    small_variables (names_in text) (domain_in text)
    (domains_are text (domain_in text) (text_written bytes text says) says.spelled says.domains within.values)
