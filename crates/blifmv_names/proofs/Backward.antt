-- Lines that say a text within the limits, whose rows fit their tables, have no fault.
use Rattle.std.proofs.Common.{◌≡◌, ◌≤◌, ◌+◌, ◌||◌, ◌&&◌, ◌++◌, ◌-◌, ℕ, Bool, true, false, not, List, [], ◌∷◌, map, length, take, drop, Option, Some, None, unwrap_or, if◌then◌else◌, nat_lt, refl, sym, ◌∙◌, ap, subst, arith}
use Rattle.std.specs.List.{list_any, list_all}
use Rattle.std.proofs.lemmas.Bool.{false≢true, and_parts}
use Rattle.std.proofs.lemmas.Bool.Decides.{nat_tests}
use Rattle.lex_core.specs.LogicalLines.{LogicalLine, logical_lines}
use Rattle.name_table.specs.Variables.{are_different, are_same}
use Rattle.net_model.specs.declared.directive.Directive.{Directive}
use Rattle.net_model.specs.declared.directive.Directive.TheVariants as directives
use Rattle.net_model.specs.declared.text_fault.TextKind.TheVariants.{UnknownDirective, RowWidth, TwiceDefault, Hierarchy, BadName, BadDomain}
use Rattle.net_model.specs.declared.text_fault.Which.TheVariants.{Signals, Values, Columns, Rows}
use Rattle.net_model.specs.Forms.{Name, Form, ModelLine, InputsLine, OutputsLine, DomainsLine, TableLine, ResetLine, LatchLine, DefaultLine, EndLine, RowLine, is_mark, is_comma, directive_of, has_count, unmarked, latch_shape, end_shape, domains_shape, values_shape, columns_shape, table_shape, before_arrow, behind_arrow, shape_by, shape_of, apart, words_of, said_by, has_names}
use Rattle.net_model.specs.NetTexts.{mentions, domain_given, domain_in, has_domains, is_model, is_end, ends_once, text_in, LinesSay}
use Rattle.net_model.specs.Faults.{fault_or}
use Rattle.net_model.proofs.OneFile.{model_begins}
use Rattle.blifmv_names.specs.declared.place.Place.{Place}
use Rattle.blifmv_names.specs.Signals.{Signal, given_in, with_mentions, signals_behind, signals_from, agrees}
use Rattle.blifmv_names.specs.LineFaults.{is_model_word, is_unknown, is_misfit, is_second_default, has_many_values, has_many_columns, rows_on, limit_on, is_clashing, kind_of_names, limit_or, kind_of_form, kind_of_shape, kind_of_words, place_behind, fault_behind, first_fault, nothing_above, begins_model, begins_model_words, line_fault}
use Rattle.blifmv_names.specs.Limits.{rows_in, IsFaultless}
use Rattle.blifmv_names.proofs.Gathered.{domain_with, domain_behind, given_all_mentioned}
use Rattle.blifmv_names.proofs.Mentions.{more_all_mentioned}
use Rattle.blifmv_names.proofs.Faultless.{Says, neither, no_line_fault}
use Rattle.blifmv_names.proofs.Within.{Keeps, same_length, length_from}

-- tests

le_not_lt : (a b : ℕ) → b ≤ a → nat_lt a b ≡ false
le_not_lt a b h = grind (arith, nat_tests)

passed : {T : Type 0} (b : Bool) (kind : T) (more : Option T) → b ≡ false → more ≡ None → (if b then Some kind else more) ≡ None
passed true kind more h is = absurd (false≢true (sym h))
passed false kind more h is = is

not_true : (b : Bool) → not b ≡ true → b ≡ false
not_true true h = absurd (false≢true h)
not_true false h = refl

is_false : (b : Bool) → (b ≡ true → ⊥) → b ≡ false
is_false true h = absurd (h refl)
is_false false h = refl

-- one line

-- a directive with a form isn't unknown, and `.end` has no further words
known : (directive : Directive) (place : Place) (first : Name) (words : List Name) (form : Form) → place.ended ≡ false → shape_by directive first words ≡ Some form → is_unknown place directive (first ∷ words) ≡ false
known directives.Model place first words form unended h = ap (λ b. (b && false) || false) unended
known directives.Inputs place first words form unended h = ap (λ b. (b && true) || false) unended
known directives.Outputs place first words form unended h = ap (λ b. (b && true) || false) unended
known directives.Domains place first words form unended h = ap (λ b. (b && true) || false) unended
known directives.Table place first words form unended h = ap (λ b. (b && true) || false) unended
known directives.Reset place first words form unended h = ap (λ b. (b && true) || false) unended
known directives.Latch place first words form unended h = ap (λ b. (b && true) || false) unended
known directives.Default place first words form unended h = ap (λ b. (b && true) || false) unended
known directives.Instance place first words form unended h = ap (λ b. (b && true) || false) unended
known directives.End place first [] form unended h = ap (λ b. (b && true) || nat_lt 1 1) unended
known directives.End place first (word ∷ words) form unended h = cc
known directives.Unknown place first words form unended h = cc
known directives.Row place first words form unended h = ap (λ b. (b && true) || false) unended

-- a domain that stands above is the one of the whole text

agreed : (domain whole : List Name) (o : Option (List Name)) (later : List Name) → whole ≡ unwrap_or o later → are_same domain whole ≡ true → agrees domain o ≡ true
agreed domain whole None later is h = refl
agreed domain whole (Some had) later is h = ap (are_same domain) (sym is) ∙ h

all_agree : (domain names : List Name) (given : Name → Option (List Name)) (whole later : Name → List Name) → ((name : Name) → whole name ≡ unwrap_or (given name) (later name)) → list_all (λ name. are_same domain (whole name)) names ≡ true → list_any (λ name. not (agrees domain (given name))) names ≡ false
all_agree domain [] given whole later is h = refl
all_agree domain (name ∷ names) given whole later is h =
    let parts = and_parts (are_same domain (whole name)) _ h in
    let here : agrees domain (given name) ≡ true = agreed domain (whole name) (given name) (later name) (is name) parts.0 in
    let more = all_agree domain names given whole later is parts.1 in
    (λ i. not (here i) || more i)

no_clash : (signals : List Signal) (form : Form) (whole later : Name → List Name) → ((name : Name) → whole name ≡ unwrap_or (given_in signals name) (later name)) → has_domains whole form ≡ true → is_clashing (with_mentions signals form) form ≡ false
no_clash signals (ModelLine names) whole later is h = refl
no_clash signals (InputsLine names) whole later is h = refl
no_clash signals (OutputsLine names) whole later is h = refl
no_clash signals (DomainsLine names count values) whole later is h =
    let parts = and_parts (are_different values) _ h in
    let at : (name : Name) → whole name ≡ unwrap_or (given_in (with_mentions signals (DomainsLine names count values)) name) (later name) =
    (λ name. is name ∙ ap (λ o. unwrap_or o (later name)) (sym (given_all_mentioned signals names name))) in
    let agree = all_agree (domain_given count values) names (given_in (with_mentions signals (DomainsLine names count values))) whole later at parts.1 in
    (λ i. not (parts.0 i) || agree i)
no_clash signals (TableLine ins outs) whole later is h = refl
no_clash signals (ResetLine ins outs) whole later is h = refl
no_clash signals (LatchLine input output) whole later is h = refl
no_clash signals (DefaultLine words) whole later is h = refl
no_clash signals EndLine whole later is h = refl
no_clash signals (RowLine words) whole later is h = refl

-- signals are only added

more_from : (signals : List Signal) (text : List Form) → length signals ≤ length (signals_from signals text)
more_from signals [] = omega arith
more_from signals (form ∷ text) =
    let here = more_all_mentioned signals (mentions form) in
    let same = same_length signals form in
    let more = more_from (signals_behind signals form) text in
    omega (arith, here, same, more)

few_here : (signals : List Signal) (form : Form) (text : List Form) → length (signals_from signals (form ∷ text)) ≤ 4096 → length (with_mentions signals form) ≤ 4096
few_here signals form text h =
    let same = same_length signals form in
    let more = more_from (signals_behind signals form) text in
    omega (arith, h, same, more)

-- a line that keeps to what stands above has no fault

no_kind_of_form : (place : Place) (signals : List Signal) (form : Form) (text : List Form) → Keeps place signals (form ∷ text) → kind_of_names place (with_mentions signals form) form ≡ None → kind_of_form place (with_mentions signals form) form ≡ None
no_kind_of_form place signals form text keeps names =
    let fits = and_parts (not (is_misfit place.width form || is_second_default place.width form)) _ keeps.fit in
    let fit = neither (is_misfit place.width form) (is_second_default place.width form) (not_true _ fits.0) in
    let few : nat_lt 4096 (length (with_mentions signals form)) ≡ false = le_not_lt 4096 _ (few_here signals form text keeps.few) in
    let rows : place.rows + (rows_on form + rows_in text) ≤ 1000000 = keeps.rows in
    let rows_here : nat_lt 1000000 (place.rows + rows_on form) ≡ false = le_not_lt 1000000 _ (omega (arith, rows)) in
    let values = (neither (has_many_values form) _ keeps.values).0 in
    let columns = (neither (has_many_columns form) _ keeps.columns).0 in
    let limit : limit_on place (with_mentions signals form) form ≡ None =
    passed (nat_lt 4096 (length (with_mentions signals form))) Signals _ few
    (passed (has_many_values form) Values _ values
    (passed (has_many_columns form) Columns _ columns
    (passed (nat_lt 1000000 (place.rows + rows_on form)) Rows None rows_here refl))) in
    let last : limit_or (limit_on place (with_mentions signals form) form) (kind_of_names place (with_mentions signals form) form) ≡ None =
    ap (λ l. limit_or l (kind_of_names place (with_mentions signals form) form)) limit ∙ names in
    passed (is_misfit place.width form) RowWidth _ fit.0 (passed (is_second_default place.width form) TwiceDefault _ fit.1 last)

no_kind_of_names : (place : Place) (signals : List Signal) (form : Form) (whole later : Name → List Name) → (is_model form && place.begun) ≡ false → has_names form ≡ true → ((name : Name) → whole name ≡ unwrap_or (given_in signals name) (later name)) → has_domains whole form ≡ true → kind_of_names place (with_mentions signals form) form ≡ None
no_kind_of_names place signals form whole later model names is domains =
    passed (is_model form && place.begun) Hierarchy _ model
    (passed (not (has_names form)) BadName _ (ap not names)
    (passed (is_clashing (with_mentions signals form) form) BadDomain None (no_clash signals form whole later is domains) refl))

no_kind_of_words : (place : Place) (signals : List Signal) (words : List Name) (form : Form) → place.ended ≡ false → shape_of words ≡ Some form → kind_of_form place (with_mentions signals form) form ≡ None → kind_of_words place signals words ≡ None
no_kind_of_words place signals [] form unended shape none = cc
no_kind_of_words place signals (first ∷ words) form unended shape none =
    passed (is_unknown place (directive_of first) (first ∷ words)) UnknownDirective _ (known (directive_of first) place first words form unended shape)
    (ap (kind_of_shape place signals (directive_of first)) shape ∙ none)

no_fault_here : (line : LogicalLine) (lines : List LogicalLine) (place : Place) (signals : List Signal) (form : Form) → said_by line ≡ Some form → kind_of_words place signals (apart (words_of line)) ≡ None → first_fault (place_behind place form) (signals_behind signals form) lines ≡ None → first_fault place signals (line ∷ lines) ≡ None
no_fault_here line lines place signals form said none rest =
    ap (λ k. fault_or k line.number (fault_behind (λ p s. first_fault p s lines) place signals (shape_of (apart (words_of line))))) none
    ∙ (ap (fault_behind (λ p s. first_fault p s lines) place signals) said ∙ rest)

-- what stands behind the line

last_end : (form : Form) (text : List Form) → ends_once (form ∷ text) ≡ true → is_end form ≡ true → text ≡ []
last_end form [] h is = refl
last_end form (next ∷ text) h is = absurd (false≢true (sym (not_true _ (and_parts (not (is_end form)) _ h).0) ∙ is))

ends_behind : (form : Form) (text : List Form) → ends_once (form ∷ text) ≡ true → ends_once text ≡ true
ends_behind form [] h = refl
ends_behind form (next ∷ text) h = (and_parts (not (is_end form)) _ h).1

keeps_behind : (place : Place) (signals : List Signal) (form : Form) (text : List Form) → Keeps place signals (form ∷ text) → Keeps (place_behind place form) (signals_behind signals form) text
keeps_behind place signals form text keeps =
    let rows : place.rows + (rows_on form + rows_in text) ≤ 1000000 = keeps.rows in
    let rows_behind : (place.rows + rows_on form) + rows_in text ≤ 1000000 = omega (arith, rows) in
    record {
      fit = (and_parts (not (is_misfit place.width form || is_second_default place.width form)) _ keeps.fit).1;
      values = (neither (has_many_values form) _ keeps.values).1;
      columns = (neither (has_many_columns form) _ keeps.columns).1;
      rows = rows_behind;
      few = keeps.few;
    }

first_said : (line : LogicalLine) (lines : List LogicalLine) (form : Form) (text : List Form) → map said_by (line ∷ lines) ≡ map Some (form ∷ text) → (said_by line ≡ Some form) × (map said_by lines ≡ map Some text)
first_said line lines form text h = (cc, cc)

-- the lines behind that of the model
lines_clean : (lines : List LogicalLine) (text : List Form) (place : Place) (signals : List Signal) (whole : Name → List Name) → Says place whole lines text → Keeps place signals text → ((name : Name) → whole name ≡ domain_with signals text name) → first_fault place signals lines ≡ None
lines_clean [] text place signals whole says keeps is = refl
lines_clean (line ∷ lines) [] place signals whole says keeps is = let said : map said_by (line ∷ lines) ≡ [] = says.said in cc
lines_clean (line ∷ lines) (form ∷ text) place signals whole says keeps is =
    let said = first_said line lines form text says.said in
    let unended : place.ended ≡ false = is_false place.ended (λ e. let none : form ∷ text ≡ [] = says.ended e in cc) in
    let models = and_parts (not (is_model form)) _ says.models in
    let spelled = and_parts (has_names form) _ says.spelled in
    let domains = and_parts (has_domains whole form) _ says.domains in
    let not_model : is_model form ≡ false = not_true _ models.0 in
    let names = no_kind_of_names place signals form whole (domain_in (form ∷ text)) (ap (λ b. b && place.begun) not_model) spelled.0 is domains.0 in
    let here = no_kind_of_words place signals (apart (words_of line)) form unended said.0 (no_kind_of_form place signals form text keeps names) in
    let says_behind : Says (place_behind place form) whole lines text = record {
      said = said.1;
      spelled = spelled.1;
      models = models.1;
      ended = λ e. last_end form text says.ends (sym (ap (λ b. b || is_end form) unended) ∙ e);
      ends = ends_behind form text says.ends;
      domains = domains.1;
    } in
    let more = lines_clean lines text (place_behind place form) (signals_behind signals form) whole says_behind (keeps_behind place signals form text keeps) (λ name. is name ∙ sym (domain_behind signals form text name)) in
    no_fault_here line lines place signals form said.0 here more

-- the whole text

text_clean : (bytes : List ℕ) (lines : List LogicalLine) (text : List Form) → logical_lines bytes ≡ lines → LinesSay bytes text → Keeps nothing_above [] text → (begins_model lines ≡ true) × (first_fault nothing_above [] lines ≡ None)
text_clean bytes lines [] is says keeps = absurd (false≢true says.begins)
text_clean bytes [] (form ∷ text) is says keeps = let said : [] ≡ map Some (form ∷ text) = ap (map said_by) (sym is) ∙ says.lines in cc
text_clean bytes (line ∷ lines) (form ∷ text) is says keeps =
    let said = first_said line lines form text (ap (map said_by) (sym is) ∙ says.lines) in
    let begins = and_parts (is_model form) _ says.begins in
    let spelled = and_parts (has_names form) _ says.spelled in
    let whole = domain_in (form ∷ text) in
    let domains = and_parts (has_domains whole form) _ says.domains in
    let names = no_kind_of_names nothing_above [] form whole whole (ap (λ b. b && false) begins.0) spelled.0 (λ name. refl) domains.0 in
    let here = no_kind_of_words nothing_above [] (apart (words_of line)) form refl said.0 (no_kind_of_form nothing_above [] form text keeps names) in
    let says_behind : Says (place_behind nothing_above form) whole lines text = record {
      said = said.1;
      spelled = spelled.1;
      models = begins.1;
      ended = λ e. last_end form text says.ends e;
      ends = ends_behind form text says.ends;
      domains = domains.1;
    } in
    let more = lines_clean lines text (place_behind nothing_above form) (signals_behind [] form) whole says_behind (keeps_behind nothing_above [] form text keeps) (λ name. sym (domain_behind [] form text name)) in
    (model_begins (words_of line) form said.0 begins.0, no_fault_here line lines nothing_above [] form said.0 here more)

pub no_fault_said : (bytes : List ℕ) → IsFaultless bytes → line_fault bytes ≡ None
no_fault_said bytes faultless =
    let rows = faultless.within.rows in
    let rows_all : 0 + rows_in (text_in bytes) ≤ 1000000 = omega (arith, rows) in
    let few : length (signals_from [] (text_in bytes)) ≤ 4096 = subst (λ (n : ℕ). n ≤ 4096) (sym (length_from (text_in bytes))) faultless.within.signals in
    let keeps : Keeps nothing_above [] (text_in bytes) = record {
      fit = faultless.fit;
      values = faultless.within.values;
      columns = faultless.within.columns;
      rows = rows_all;
      few = few;
    } in
    let clean = text_clean bytes (logical_lines bytes) (text_in bytes) refl faultless.says keeps in
    no_line_fault bytes clean.0 clean.1
