-- What it means that a line passes the tests of the first pass.
use Rattle.std.proofs.Common.{◌≡◌, ◌<◌, ◌≤◌, ◌+◌, ◌||◌, ◌&&◌, ◌++◌, ℕ, Bool, true, false, not, nat_lt, List, [], ◌∷◌, length, Option, Some, None, if◌then◌else◌, refl, sym, ◌∙◌, ap, arith}
use Rattle.std.specs.Prelude.{is_some}
use Rattle.std.specs.List.{list_any, list_all}
use Rattle.std.proofs.lemmas.Bool.{false≢true, and_parts}
use Rattle.std.proofs.lemmas.Bool.Decides.{nat_tests}
use Rattle.net_model.specs.declared.kiss_directive.KissDirective.{KissDirective}
use Rattle.net_model.specs.declared.kiss_directive.KissDirective.TheVariants as directives
use Rattle.net_model.specs.declared.text_fault.TextKind.{TextKind}
use Rattle.net_model.specs.declared.text_fault.TextKind.TheVariants as kinds
use Rattle.net_model.specs.declared.text_fault.Which.{Which}
use Rattle.net_model.specs.declared.text_fault.Which.TheVariants.{Signals, Values, Columns, Rows}
use Rattle.net_model.specs.Forms.{Name, is_name}
use Rattle.net_model.specs.KissForms.{KissForm, InputsWidth, OutputsWidth, CountLine, ResetState, InputNames, OutputNames, StepRow, LastLine, is_width, width_shape, word_shape, last_shape, step_shape, kiss_shape_by, kiss_directive_of, kiss_shape_of}
use Rattle.net_model.specs.KissTexts.{input_width, output_width, input_names_given, output_names_given, is_step, is_last, is_wide, is_bit_byte, is_pattern, form_stands, states_in}
use Rattle.kiss_reader.specs.declared.place.Place.{Place}
use Rattle.kiss_reader.specs.KissFaults.{is_unknown_word, is_row_word, is_unknown, is_miscounted, is_repeated, column_names_in, has_many_columns, rows_in, rows_limit, kiss_limit, agrees, has_bad_name, has_bad_width, has_bad_bit, misses_widths, limit_or, kind_of_shape, kind_of_words}
use Rattle.kiss_reader.specs.Above.{rows_on, kind_at, is_unknown_at, is_repeated_at, rows_limit_at, limit_at, kind_of_form_at, kind_of_shape_at}

-- tests

pub if_none : {T : Type 0} (b : Bool) (kind : T) (more : Option T) → (if b then Some kind else more) ≡ None → (b ≡ false) × (more ≡ None)
if_none true kind more h = cc
if_none false kind more h = (refl, h)

pub no_limit : (limit : Option Which) (kind : Option TextKind) → limit_or limit kind ≡ None → (limit ≡ None) × (kind ≡ None)
no_limit None kind h = (refl, h)
no_limit (Some which) kind h = cc

pub neither : (a b : Bool) → (a || b) ≡ false → (a ≡ false) × (b ≡ false)
neither true b h = absurd (false≢true (sym h))
neither false b h = (refl, h)

pub lt_false : (a b : ℕ) → nat_lt a b ≡ false → b ≤ a
lt_false a b h = grind (arith, nat_tests)

pub lt_is_not : (a b : ℕ) → b ≤ a → nat_lt a b ≡ false
lt_is_not a b h = grind (arith, nat_tests)

pub not_false : (b : Bool) → not b ≡ false → b ≡ true
not_false true h = refl
not_false false h = absurd (false≢true (sym h))

pub not_true : (b : Bool) → not b ≡ true → b ≡ false
not_true true h = absurd (false≢true h)
not_true false h = refl

-- the directive of a line with a shape

abbrev pub directive_for : KissForm → KissDirective
directive_for (InputsWidth count) = directives.Inputs
directive_for (OutputsWidth count) = directives.Outputs
directive_for CountLine = directives.Count
directive_for (ResetState name) = directives.Reset
directive_for (InputNames names) = directives.InputNames
directive_for (OutputNames names) = directives.OutputNames
directive_for (StepRow input present next output) = directives.Row
directive_for LastLine = directives.End

exactly : (line form : KissForm) (directive : KissDirective) → directive ≡ directive_for line → Some line ≡ Some form → directive ≡ directive_for form
exactly line form directive is h = is ∙ ap directive_for (let same : line ≡ form = cc in same)

no_shape : (form : KissForm) (directive : KissDirective) → None ≡ Some form → directive ≡ directive_for form
no_shape form directive h = cc

of_width : (line : Name → KissForm) (directive : KissDirective) (words : List Name) (form : KissForm) → ((word : Name) → directive ≡ directive_for (line word)) → width_shape line words ≡ Some form → directive ≡ directive_for form
of_width line directive [] form is h = no_shape form directive h
of_width line directive (word ∷ []) form is h =
    elim (is_width word) as (λ b. (if b then Some (line word) else None) ≡ Some form → directive ≡ directive_for form) [
      | true ↦ λ e. exactly (line word) form directive (is word) e
      | false ↦ λ e. no_shape form directive e
    ] h
of_width line directive (word ∷ other ∷ words) form is h = no_shape form directive h

of_word : (line : Name → KissForm) (directive : KissDirective) (words : List Name) (form : KissForm) → ((word : Name) → directive ≡ directive_for (line word)) → word_shape line words ≡ Some form → directive ≡ directive_for form
of_word line directive [] form is h = no_shape form directive h
of_word line directive (word ∷ []) form is h = exactly (line word) form directive (is word) h
of_word line directive (word ∷ other ∷ words) form is h = no_shape form directive h

of_last : (words : List Name) (form : KissForm) → last_shape words ≡ Some form → directives.End ≡ directive_for form
of_last [] form h = exactly LastLine form directives.End refl h
of_last (word ∷ words) form h = no_shape form directives.End h

of_step : (input : Name) (words : List Name) (form : KissForm) → step_shape input words ≡ Some form → directives.Row ≡ directive_for form
of_step input [] form h = no_shape form directives.Row h
of_step input (present ∷ []) form h = no_shape form directives.Row h
of_step input (present ∷ next ∷ []) form h = no_shape form directives.Row h
of_step input (present ∷ next ∷ output ∷ []) form h = exactly (StepRow input present next output) form directives.Row refl h
of_step input (present ∷ next ∷ output ∷ word ∷ words) form h = no_shape form directives.Row h

pub shape_directive : (directive : KissDirective) (first : Name) (words : List Name) (form : KissForm) → kiss_shape_by directive first words ≡ Some form → directive ≡ directive_for form
shape_directive directives.Inputs first words form h = of_width InputsWidth directives.Inputs words form (λ word. refl) h
shape_directive directives.Outputs first words form h = of_width OutputsWidth directives.Outputs words form (λ word. refl) h
shape_directive directives.Count first words form h = of_word (λ word. CountLine) directives.Count words form (λ word. refl) h
shape_directive directives.Reset first words form h = of_word ResetState directives.Reset words form (λ word. refl) h
shape_directive directives.InputNames first words form h = exactly (InputNames words) form directives.InputNames refl h
shape_directive directives.OutputNames first words form h = exactly (OutputNames words) form directives.OutputNames refl h
shape_directive directives.End first words form h = of_last words form h
shape_directive directives.Unknown first words form h = no_shape form directives.Unknown h
shape_directive directives.Row first words form h = of_step first words form h

pub row_word : (form : KissForm) → is_row_word (directive_for form) ≡ is_step form
row_word (InputsWidth count) = refl
row_word (OutputsWidth count) = refl
row_word CountLine = refl
row_word (ResetState name) = refl
row_word (InputNames names) = refl
row_word (OutputNames names) = refl
row_word (StepRow input present next output) = refl
row_word LastLine = refl

pub known_word : (form : KissForm) → is_unknown_word (directive_for form) ≡ false
known_word (InputsWidth count) = refl
known_word (OutputsWidth count) = refl
known_word CountLine = refl
known_word (ResetState name) = refl
known_word (InputNames names) = refl
known_word (OutputNames names) = refl
known_word (StepRow input present next output) = refl
known_word LastLine = refl

pub counted_word : (form : KissForm) → is_miscounted (directive_for form) (Some form) ≡ false
counted_word (InputsWidth count) = refl
counted_word (OutputsWidth count) = refl
counted_word CountLine = refl
counted_word (ResetState name) = refl
counted_word (InputNames names) = refl
counted_word (OutputNames names) = refl
counted_word (StepRow input present next output) = refl
counted_word LastLine = refl

-- rows

few_by : (form : KissForm) (n : ℕ) → n ≤ 1000000 → (if is_step form && nat_lt 1000000 (n + 1) then Some Rows else None) ≡ None → n + rows_on form ≤ 1000000
few_by (InputsWidth count) n few h = omega arith
few_by (OutputsWidth count) n few h = omega arith
few_by CountLine n few h = omega arith
few_by (ResetState name) n few h = omega arith
few_by (InputNames names) n few h = omega arith
few_by (OutputNames names) n few h = omega arith
few_by (StepRow input present next output) n few h = lt_false 1000000 (n + 1) (if_none (nat_lt 1000000 (n + 1)) Rows None h).0
few_by LastLine n few h = omega arith

-- as many rows stand behind a line that is taken
pub rows_behind : (place : Place) (columns states words : List Name) (form : KissForm) → kind_at place columns states words ≡ None → kiss_shape_of words ≡ Some form → place.rows ≤ 1000000 → place.rows + rows_on form ≤ 1000000
rows_behind place columns states [] form h says few = cc
rows_behind place columns states (first ∷ words) form h says few =
    let directive = kiss_directive_of first in
    let known = if_none (is_unknown_at place directive (first ∷ words)) kinds.UnknownDirective _ h in
    let counted = if_none (is_miscounted directive (kiss_shape_of (first ∷ words)) || is_repeated_at place directive) kinds.BadCount _ known.1 in
    let shaped : kind_of_shape_at place columns states directive (Some form) ≡ None = ap (kind_of_shape_at place columns states directive) (sym says) ∙ counted.1 in
    let limit = (no_limit (limit_at place columns states directive form) (kind_of_form_at place form) shaped).0 in
    let signals = if_none _ Signals _ limit in
    let values = if_none _ Values _ signals.1 in
    let counts = if_none (has_many_columns form) Columns (rows_limit_at place directive) values.1 in
    let row : is_row_word directive ≡ is_step form = ap is_row_word (shape_directive directive first words form says) ∙ row_word form in
    few_by form place.rows few (ap (λ b. if b && nat_lt 1000000 (place.rows + 1) then Some Rows else None) (sym row) ∙ counts.1)

-- names and rows that can stand

wide : (width : Option ℕ) (n : ℕ) → agrees width n ≡ true → is_some width ≡ true → is_wide width n ≡ true
wide None n h some = absurd (false≢true some)
wide (Some w) n h some = h

pub is_wide_agrees : (width : Option ℕ) (n : ℕ) → is_wide width n ≡ true → (agrees width n ≡ true) × (is_some width ≡ true)
is_wide_agrees None n h = absurd (false≢true h)
is_wide_agrees (Some w) n h = (h, refl)

names_pass : (had any : Bool) (width : Option ℕ) (names : List Name) → (had || any) ≡ false → not (list_all is_name names) ≡ false → not (agrees width (length names)) ≡ false → not (is_some width) ≡ false → (not had && (not any && (is_wide width (length names) && list_all is_name names))) ≡ true
names_pass had any width names once named agree given =
    let parts = neither had any once in
    rw (parts.0, parts.1, wide width (length names) (not_false _ agree) (not_false _ given), not_false _ named) refl

bits_pass : (ins outs : Option ℕ) (input output : Name) → not (agrees ins (length input) && agrees outs (length output)) ≡ false → not (list_all is_bit_byte input && list_all is_bit_byte output) ≡ false → not (is_some ins && is_some outs) ≡ false → (is_pattern ins input && is_pattern outs output) ≡ true
bits_pass ins outs input output agree bits given =
    let agreeing = and_parts (agrees ins (length input)) (agrees outs (length output)) (not_false _ agree) in
    let both = and_parts (list_all is_bit_byte input) (list_all is_bit_byte output) (not_false _ bits) in
    let widths = and_parts (is_some ins) (is_some outs) (not_false _ given) in
    rw (wide ins (length input) agreeing.0 widths.0, wide outs (length output) agreeing.1 widths.1, both.0, both.1) refl

-- a line of this form that passes its tests
pub record IsGood (above : List KissForm) (form : KissForm) : Type 0 where
  pub once : is_repeated above (directive_for form) ≡ false
  pub named : has_bad_name form ≡ false
  pub widths : has_bad_width above form ≡ false
  pub bits : has_bad_bit form ≡ false
  pub given : misses_widths above form ≡ false

pub good_stands : (above : List KissForm) (form : KissForm) → IsGood above form → form_stands above form ≡ true
good_stands above (InputsWidth count) h = ap not h.once
good_stands above (OutputsWidth count) h = ap not h.once
good_stands above CountLine h = refl
good_stands above (ResetState name) h = ap not h.once
good_stands above (InputNames names) h = names_pass (is_some (input_names_given above)) (list_any is_step above) (input_width above) names h.once h.named h.widths h.given
good_stands above (OutputNames names) h = names_pass (is_some (output_names_given above)) (list_any is_step above) (output_width above) names h.once h.named h.widths h.given
good_stands above (StepRow input present next output) h = bits_pass (input_width above) (output_width above) input output h.widths h.bits h.given
good_stands above LastLine h = refl

-- what is known of a line without a fault
pub record Passes (above : List KissForm) (words : List Name) (form : KissForm) : Type 0 where
  pub says : kiss_shape_of words ≡ Some form
  pub before_end : list_any is_last above ≡ false
  pub good : IsGood above form
  pub signals : length (column_names_in (above ++ form ∷ [])) ≤ 4096
  pub values : length (states_in (above ++ form ∷ [])) ≤ 65536
  pub columns : has_many_columns form ≡ false
  pub rows : rows_in above ≤ 1000000 → rows_in above + rows_on form ≤ 1000000

passes_form : (above : List KissForm) (first : Name) (words : List Name) (form : KissForm) → kiss_shape_of (first ∷ words) ≡ Some form → kind_of_words above (first ∷ words) ≡ None → Passes above (first ∷ words) form
passes_form above first words form says h =
    let directive = kiss_directive_of first in
    let fits = shape_directive directive first words form says in
    let known = if_none (is_unknown above directive (first ∷ words)) kinds.UnknownDirective _ h in
    let counted = if_none (is_miscounted directive (kiss_shape_of (first ∷ words)) || is_repeated above directive) kinds.BadCount _ known.1 in
    let shaped : limit_or (kiss_limit above directive (Some form)) (kind_of_shape above (Some form)) ≡ None
    = ap (λ shape. limit_or (kiss_limit above directive shape) (kind_of_shape above shape)) (sym says) ∙ counted.1 in
    let both = no_limit (kiss_limit above directive (Some form)) (kind_of_shape above (Some form)) shaped in
    let signals = if_none (nat_lt 4096 (length (column_names_in (above ++ form ∷ [])))) Signals _ both.0 in
    let values = if_none (nat_lt 65536 (length (states_in (above ++ form ∷ [])))) Values _ signals.1 in
    let counts = if_none (has_many_columns form) Columns (rows_limit above directive) values.1 in
    let row : is_row_word directive ≡ is_step form = ap is_row_word fits ∙ row_word form in
    let named = if_none (has_bad_name form) kinds.BadName _ both.1 in
    let widths = if_none (has_bad_width above form) kinds.BadWidth _ named.1 in
    let bits = if_none (has_bad_bit form) kinds.BadBit _ widths.1 in
    let given = if_none (misses_widths above form) kinds.MissingWidths None bits.1 in
    record {
      says = says;
      before_end = (neither (list_any is_last above) _ (neither (is_unknown_word directive) _ known.0).1).0;
      good = record {
        once = ap (is_repeated above) (sym fits) ∙ (neither (is_miscounted directive (kiss_shape_of (first ∷ words))) _ counted.0).1;
        named = named.0;
        widths = widths.0;
        bits = bits.0;
        given = given.0;
      };
      signals = lt_false 4096 _ signals.0;
      values = lt_false 65536 _ values.0;
      columns = counts.0;
      rows = λ few. few_by form (rows_in above) few (ap (λ b. if b && nat_lt 1000000 (rows_in above + 1) then Some Rows else None) (sym row) ∙ counts.1);
    }

shapeless : (above : List KissForm) (directive : KissDirective) → limit_or (rows_limit above directive) (Some kinds.BadWidth) ≡ None → ⊥
shapeless above directive h =
    let is : Some kinds.BadWidth ≡ None = (no_limit (rows_limit above directive) (Some kinds.BadWidth) h).1 in
    cc

-- a line without a fault says something, and passes all tests
pub passes : (above : List KissForm) (words : List Name) → 0 < length words → kind_of_words above words ≡ None → (form : KissForm) × Passes above words form
passes above [] some h = absurd (omega arith)
passes above (first ∷ words) some h =
    elim (kiss_shape_of (first ∷ words)) as (λ shape. kiss_shape_of (first ∷ words) ≡ shape → (form : KissForm) × Passes above (first ∷ words) form) [
      | None ↦ λ is.
          let directive = kiss_directive_of first in
          let known = if_none (is_unknown above directive (first ∷ words)) kinds.UnknownDirective _ h in
          let counted = if_none (is_miscounted directive (kiss_shape_of (first ∷ words)) || is_repeated above directive) kinds.BadCount _ known.1 in
          absurd (shapeless above directive (ap (λ shape. limit_or (kiss_limit above directive shape) (kind_of_shape above shape)) (sym is) ∙ counted.1))
      | Some form ↦ λ is. (form, passes_form above first words form is h)
    ] refl
