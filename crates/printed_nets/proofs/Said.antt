use Rattle.std.proofs.Common.{◌≡◌, ◌+◌, ◌-◌, ◌*◌, ◌<◌, ◌≤◌, ◌^◌, ◌==◌, ◌&&◌, ◌||◌, ℕ, Bool, true, false, not, List, [], ◌∷◌, ◌++◌, length, map, Some, refl, sym, ap, ◌∙◌, arith, rules, tests, codes, decimal}
use Rattle.std.specs.Prelude.{nat_lt}
use Rattle.std.specs.List.{flat_map, list_all, list_any, AllByRecursion, join_with_byte}
use Rattle.std.specs.Str.Parse.{AllDigits}
use Rattle.std.proofs.lemmas.Bool.{and_parts, false≢true}
use Rattle.std.proofs.lemmas.Bool.Decides.{nat_tests}
use Rattle.std.proofs.lemmas.Fmt.{decimal_is_IsNumeral, digits_value-decimal}
use Rattle.std.proofs.lemmas.Str.Parse.{numerals_by_fold, tells_digits, FoldsDigits, digit_from_value}
use Rattle.std.proofs.lemmas.Slice.Eq.{bytes_eq-Decides}
use Rattle.name_table.specs.Variables.{names_of}
use Rattle.net_model.specs.Words.{Variable, Scope}
use Rattle.net_model.specs.Forms.{Name, Form, ModelLine, InputsLine, OutputsLine, is_comma, is_opening, is_closing, is_arrow, is_mark, begins_with_arrow, ends_with_backslash, is_name, is_digit, is_number, number_from, number_of, apart, unmarked, has_count, shape_of}
use Rattle.net_model.specs.Written.{is_word, IsTextName, IsTextValue, IsTextVariable}
use Rattle.net_model.specs.Printed.{domain_line, IsPrintedVariable}
use Rattle.printed_nets.specs.Lines.{words_in, IsPlainLine}
use Rattle.printed_nets.specs.PrintedNets.{domain_form}
use Rattle.printed_nets.proofs.Worded.{IsField, join_plain, join_words, word_words, word_field, decimal_word, decimal_field}

-- What the lines of a printed text say.

-- the fields make a line that says this
pub record Says (fields : List (List ℕ)) (form : Form) : Type 0 where
  pub plain : IsPlainLine (join_with_byte 32 fields)
  pub says : shape_of (apart (words_in (join_with_byte 32 fields))) ≡ Some form

-- each line says the form at its place
abbrev pub AllSay : List (List (List ℕ)) → List Form → Type 0
AllSay [] [] = Unit {0}
AllSay [] (form ∷ forms) = ⊥
AllSay (line ∷ lines) [] = ⊥
AllSay (line ∷ lines) (form ∷ forms) = Says line form × AllSay lines forms

pub say_append : (lines : List (List (List ℕ))) (forms : List Form) (more : List (List (List ℕ))) (others : List Form) → AllSay lines forms → AllSay more others → AllSay (lines ++ more) (forms ++ others)
say_append [] [] more others h k = k
say_append [] (form ∷ forms) more others h k = absurd h
say_append (line ∷ lines) [] more others h k = absurd h
say_append (line ∷ lines) (form ∷ forms) more others h k = (h.0, say_append lines forms more others h.1 k)

-- of a line of fields with these words
pub says_by : (field : List ℕ) (fields words : List (List ℕ)) (form : Form) → AllByRecursion IsField (field ∷ fields) → flat_map words_in (field ∷ fields) ≡ words → shape_of (apart words) ≡ Some form → Says (field ∷ fields) form
says_by field fields words form all are said = record {
  plain = join_plain field fields all;
  says = ap (λ ws. shape_of (apart ws)) (join_words (field ∷ fields) ∙ are) ∙ said;
}

-- a field that is one word
pub record IsWordField (field : List ℕ) : Type 0 where
  pub field_is : IsField field
  pub words : words_in field ≡ field ∷ []

pub are_fields : (fields : List (List ℕ)) → AllByRecursion IsWordField fields → AllByRecursion IsField fields
are_fields [] all = tt
are_fields (field ∷ fields) all = (all.0.field_is, are_fields fields all.1)

pub words_are : (fields : List (List ℕ)) → AllByRecursion IsWordField fields → flat_map words_in fields ≡ fields
words_are [] all = refl
words_are (field ∷ fields) all = ap (λ ws. ws ++ flat_map words_in fields) all.0.words ∙ ap (λ ws. field ∷ ws) (words_are fields all.1)

pub all_append : (fields more : List (List ℕ)) → AllByRecursion IsWordField fields → AllByRecursion IsWordField more → AllByRecursion IsWordField (fields ++ more)
all_append [] more h k = k
all_append (field ∷ fields) more h k = (h.0, all_append fields more h.1 k)

-- of a line of words
pub says_words : (field : List ℕ) (fields : List (List ℕ)) (form : Form) → AllByRecursion IsWordField (field ∷ fields) → shape_of (apart (field ∷ fields)) ≡ Some form → Says (field ∷ fields) form
says_words field fields form all said = says_by field fields (field ∷ fields) form (are_fields (field ∷ fields) all) (words_are (field ∷ fields) all) said

-- names and value names

pub not_false : (b : Bool) → not b ≡ true → b ≡ false
not_false true e = absurd (false≢true e)
not_false false e = refl

-- what a name is not
pub record IsPlainName (name : Name) : Type 0 where
  pub no_comma : is_comma name ≡ false
  pub no_opening : is_opening name ≡ false
  pub no_closing : is_closing name ≡ false
  pub no_arrow : begins_with_arrow name ≡ false
  pub no_backslash : ends_with_backslash name ≡ false

pub plain_name : (name : Name) → is_name name ≡ true → IsPlainName name
plain_name name is =
    let last = not (begins_with_arrow name) && not (ends_with_backslash name) in
    let more = not (is_closing name) && last in
    let one = and_parts (not (is_comma name)) (not (is_opening name) && more) is in
    let two = and_parts (not (is_opening name)) more one.1 in
    let three = and_parts (not (is_closing name)) last two.1 in
    let four = and_parts (not (begins_with_arrow name)) (not (ends_with_backslash name)) three.1 in
    record {
      no_comma = not_false (is_comma name) one.0;
      no_opening = not_false (is_opening name) two.0;
      no_closing = not_false (is_closing name) three.0;
      no_arrow = not_false (begins_with_arrow name) four.0;
      no_backslash = not_false (ends_with_backslash name) four.1;
    }

pub name_field : (name : Name) → IsTextName name → IsWordField name
name_field name text = record { field_is = word_field name text.word (plain_name name text.name_is).no_backslash; words = word_words name text.word }

pub value_is_name : (name : Name) → IsTextValue name → IsTextName name
value_is_name name text = record { word = text.word; name_is = (and_parts (is_name name) _ text.name_is).0 }

pub value_field : (name : Name) → IsTextValue name → IsWordField name
value_field name text = name_field name (value_is_name name text)

pub arrow_begins : (name : Name) → begins_with_arrow name ≡ false → is_arrow name ≡ false
arrow_begins name none =
    elim (is_arrow name) as (λ b. is_arrow name ≡ b → b ≡ false) [
      | true ↦ λ e.
          let is : name ≡ codes "->" = (bytes_eq-Decides name (codes "->")).0 e in
          absurd (false≢true (sym none ∙ ap begins_with_arrow is))
      | false ↦ λ e. refl
    ] refl

pub name_unmarked : (name : Name) → is_name name ≡ true → is_mark name ≡ false
name_unmarked name is =
    let plain = plain_name name is in
    rw plain.no_comma (rw plain.no_opening (rw plain.no_closing (arrow_begins name plain.no_arrow)))

pub names_unmarked : (names : List Name) → AllByRecursion IsTextName names → list_any is_mark names ≡ false
names_unmarked [] all = refl
names_unmarked (name ∷ names) all = rw (name_unmarked name all.0.name_is) (names_unmarked names all.1)

pub are_unmarked : (names : List Name) (form : Form) → list_any is_mark names ≡ false → unmarked names form ≡ Some form
are_unmarked names form none = rw none refl

pub name_fields : (names : List Name) → AllByRecursion IsTextName names → AllByRecursion IsWordField names
name_fields [] all = tt
name_fields (name ∷ names) all = (name_field name all.0, name_fields names all.1)

values_are_names : (names : List Name) → AllByRecursion IsTextValue names → AllByRecursion IsTextName names
values_are_names [] all = tt
values_are_names (name ∷ names) all = (value_is_name name all.0, values_are_names names all.1)

pub names_of_vars : (vars : Scope) → AllByRecursion IsPrintedVariable vars → AllByRecursion IsTextName (names_of vars)
names_of_vars [] all = tt
names_of_vars (v ∷ vars) all = (all.0.text.name, names_of_vars vars all.1)

-- a line that begins with this word
pub const_field : (word : List ℕ) → is_word word ≡ true → ends_with_backslash word ≡ false → IsWordField word
const_field word is last = record { field_is = word_field word is last; words = word_words word is }

-- `.model`, `.inputs`

pub model_says : (name : Name) → IsTextName name → Says (codes ".model" ∷ name ∷ []) (ModelLine (name ∷ []))
model_says name text =
    says_words (codes ".model") (name ∷ []) (ModelLine (name ∷ [])) (const_field (codes ".model") refl refl, (name_field name text, tt))
    (are_unmarked (name ∷ []) (ModelLine (name ∷ [])) (names_unmarked (name ∷ []) (text, tt)))

pub inputs_say : (names : List Name) → AllByRecursion IsTextName names → Says (codes ".inputs" ∷ names) (InputsLine names)
inputs_say names all =
    says_words (codes ".inputs") names (InputsLine names) (const_field (codes ".inputs") refl refl, name_fields names all)
    (are_unmarked names (InputsLine names) (names_unmarked names all))

pub outputs_say : Says (codes ".outputs" ∷ codes "Acc" ∷ []) (OutputsLine (codes "Acc" ∷ []))
outputs_say =
    says_words (codes ".outputs") (codes "Acc" ∷ []) (OutputsLine (codes "Acc" ∷ []))
    (const_field (codes ".outputs") refl refl, (const_field (codes "Acc") refl refl, tt)) refl

-- `.mv`

number_folds : FoldsDigits number_from
number_folds = record { empty = λ n. refl; more = λ n c cs range. let same : 10 * n + (c - 48) ≡ n * 10 + (c - 48) = omega arith in ap (λ k. number_from k cs) same }

pub number_of_decimal : (n : ℕ) → n < 2 ^ 64 → number_of (decimal n) ≡ n
number_of_decimal n few = digits_value-decimal (numerals_by_fold (AllDigits 10) tells_digits number_from number_folds) n few

digit_test : (b : ℕ) → 48 ≤ b → b ≤ 57 → is_digit b ≡ true
digit_test b low high = search (rules, tests)

digits_test : (ds : List ℕ) → AllDigits 10 ds → list_all is_digit ds ≡ true
digits_test [] h = refl
digits_test (d ∷ ds) h =
    let range = digit_from_value d h.0 in
    rw (digit_test d range.0 range.1) (digits_test ds h.1)

some_test : (n : ℕ) → 0 < n → nat_lt 0 n ≡ true
some_test n some = grind (arith, nat_tests)

same_test : (n : ℕ) → (n == n) ≡ true
same_test n = grind (arith, nat_tests)

or_true : (b : Bool) → (b || true) ≡ true
or_true true = refl
or_true false = refl

decimal_is_number : (n : ℕ) → n < 2 ^ 64 → is_number (decimal n) ≡ true
decimal_is_number n few =
    let numeral = (decimal_is_IsNumeral n few).0 in
    rw (some_test (length (decimal n)) numeral.0) (digits_test (decimal n) numeral.1)

pub counts : (n : ℕ) (values : List Name) → 0 < n → n < 2 ^ 64 → length values ≡ n → has_count (decimal n) values ≡ true
counts n values some few are =
    rw (decimal_is_number n few) (rw (number_of_decimal n few) (rw (some_test n some) (rw are (rw (same_test n) (or_true (n == 0))))))

pub word_no_comma : (word : Name) → is_word word ≡ true → is_comma word ≡ false
word_no_comma word is =
    elim (is_comma word) as (λ b. is_comma word ≡ b → b ≡ false) [
      | true ↦ λ e.
          let same : word ≡ codes "," = (bytes_eq-Decides word (codes ",")).0 e in
          let no : false ≡ true = sym (ap is_word same) ∙ is in
          absurd (false≢true no)
      | false ↦ λ e. refl
    ] refl

domain_says : (v : Variable) → IsTextVariable v → length v.values < 2 ^ 64 → Says (domain_line v) (domain_form v)
domain_says v text few =
    let count = decimal (length v.values) in
    let names = values_are_names v.values text.values in
    says_words (codes ".mv") (v.name ∷ count ∷ v.values) (domain_form v)
    (const_field (codes ".mv") refl refl, (name_field v.name text.name, (record { field_is = decimal_field (length v.values) few; words = word_words count (decimal_word (length v.values) few) }, name_fields v.values names)))
    (rw (name_unmarked v.name text.name.name_is)
    (rw (word_no_comma count (decimal_word (length v.values) few))
    (rw (counts (length v.values) v.values text.some few refl)
    (are_unmarked v.values (domain_form v) (names_unmarked v.values names)))))

pub domains_say : (vars : Scope) → AllByRecursion IsPrintedVariable vars → AllSay (map domain_line vars) (map domain_form vars)
domains_say [] all = tt
domains_say (v ∷ vars) all = (domain_says v all.0.text all.0.few, domains_say vars all.1)
