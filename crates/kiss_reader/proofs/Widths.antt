-- The widths of a text that stands: its names of columns and its rows are as wide.
use Rattle.std.proofs.Common.{◌≡◌, ◌<◌, ◌≤◌, ◌&&◌, ◌++◌, ℕ, Bool, true, false, not, nat_lt, List, [], ◌∷◌, length, map, Option, Some, None, if◌then◌else◌, refl, sym, ap, subst, append_assoc, arith}
use Rattle.std.specs.Prelude.{is_some}
use Rattle.std.specs.List.{AllByRecursion, list_any, list_all, flat_map}
use Rattle.std.proofs.lemmas.Bool.{false≢true, and_parts, eqb-true, ltb-true}
use Rattle.lex_core.specs.LogicalLines.{TextWord, LogicalLine, logical_lines}
use Rattle.lex_core.specs.TextWords.{AreTextWords}
use Rattle.lex_core.proofs.Made.{words_made}
use Rattle.net_model.specs.declared.kiss_directive.KissDirective.{KissDirective}
use Rattle.net_model.specs.declared.kiss_directive.KissDirective.TheVariants as directives
use Rattle.net_model.specs.Forms.{Name, is_name, is_number, number_of}
use Rattle.net_model.specs.Written.{IsTextName}
use Rattle.net_model.specs.NetTexts.{distinct}
use Rattle.net_model.specs.KissForms.{KissForm, InputsWidth, OutputsWidth, CountLine, ResetState, InputNames, OutputNames, StepRow, LastLine, is_width, width_shape, word_shape, last_shape, step_shape, kiss_shape_by, kiss_directive_of, kiss_shape_of, kiss_said_by}
use Rattle.net_model.specs.KissTexts.{input_width, output_width, input_names_given, output_names_given, is_step, is_last, is_wide, is_pattern, form_stands, forms_stand, states_on, states_in}
use Rattle.kiss_reader.specs.KissFaults.{has_many_columns}
use Rattle.kiss_reader.specs.Header.{or_first}
use Rattle.kiss_reader.proofs.Kept.{input_width_append, output_width_append}
use Rattle.kiss_reader.proofs.Passing.{neither, lt_false}
use Rattle.kiss_reader.proofs.Rowed.{no_states_on}
use Rattle.kiss_reader.proofs.ColumnNames.{Come, names_words}

-- a line that is written with words of a text

abbrev pub IsWritten : KissForm → Type 0
IsWritten (InputsWidth count) = is_width count ≡ true
IsWritten (OutputsWidth count) = is_width count ≡ true
IsWritten (InputNames names) = Come names
IsWritten (OutputNames names) = Come names
IsWritten _ = Unit {0}

abbrev IfWritten : Option KissForm → Type 0
IfWritten None = Unit {0}
IfWritten (Some form) = IsWritten form

width_written : (line : Name → KissForm) (words : List Name) → ((word : Name) → is_width word ≡ true → IsWritten (line word)) → IfWritten (width_shape line words)
width_written line [] h = tt
width_written line (word ∷ []) h =
    elim (is_width word) as (λ b. is_width word ≡ b → IfWritten (if b then Some (line word) else None)) [
      | true ↦ λ is. h word is
      | false ↦ λ is. tt
    ] refl
width_written line (word ∷ other ∷ words) h = tt

word_written : (line : Name → KissForm) (words : List Name) → ((word : Name) → IsWritten (line word)) → IfWritten (word_shape line words)
word_written line [] h = tt
word_written line (word ∷ []) h = h word
word_written line (word ∷ other ∷ words) h = tt

last_written : (words : List Name) → IfWritten (last_shape words)
last_written [] = tt
last_written (word ∷ words) = tt

step_written : (input : Name) (words : List Name) → IfWritten (step_shape input words)
step_written input [] = tt
step_written input (present ∷ []) = tt
step_written input (present ∷ next ∷ []) = tt
step_written input (present ∷ next ∷ output ∷ []) = tt
step_written input (present ∷ next ∷ output ∷ word ∷ words) = tt

shape_written : (directive : KissDirective) (first : Name) (words : List Name) → Come words → IfWritten (kiss_shape_by directive first words)
shape_written directives.Inputs first words h = width_written InputsWidth words (λ word is. is)
shape_written directives.Outputs first words h = width_written OutputsWidth words (λ word is. is)
shape_written directives.Count first words h = word_written (λ word. CountLine) words (λ word. tt)
shape_written directives.Reset first words h = word_written ResetState words (λ word. tt)
shape_written directives.InputNames first words h = h
shape_written directives.OutputNames first words h = h
shape_written directives.End first words h = last_written words
shape_written directives.Unknown first words h = tt
shape_written directives.Row first words h = step_written first words

words_written : (words : List Name) → Come words → IfWritten (kiss_shape_of words)
words_written [] h = tt
words_written (first ∷ words) h = shape_written (kiss_directive_of first) first words h.1

come_words : (words : List TextWord) → AreTextWords words → Come (map (λ word. word.bytes) words)
come_words [] h = tt
come_words (word ∷ words) h = (h.0, come_words words h.1)

forms_written : (lines : List LogicalLine) (text : List KissForm) → AllByRecursion (λ (line : LogicalLine). AreTextWords line.words) lines → map kiss_said_by lines ≡ map Some text → AllByRecursion IsWritten text
forms_written [] [] h is = tt
forms_written [] (form ∷ text) h is = cc
forms_written (line ∷ lines) [] h is = cc
forms_written (line ∷ lines) (form ∷ text) h is =
    let first : kiss_said_by line ≡ Some form = cc in
    let rest : map kiss_said_by lines ≡ map Some text = cc in
    (subst IfWritten first (words_written (map (λ word. word.bytes) line.words) (come_words line.words h.0)), forms_written lines text h.1 rest)

pub text_written : (bytes : List ℕ) (text : List KissForm) → map kiss_said_by (logical_lines bytes) ≡ map Some text → AllByRecursion IsWritten text
text_written bytes text is = forms_written (logical_lines bytes) text (words_made bytes) is

-- a line that fits the widths of the columns

pub record IsCount (count : Name) : Type 0 where
  pub some : 0 < number_of count
  pub few : number_of count ≤ 256

pub record AreNames (width : Option ℕ) (names : List Name) : Type 0 where
  pub wide : width ≡ Some (length names)
  pub are : AllByRecursion IsTextName names

pub record IsWide (ins outs : Option ℕ) (input output : Name) : Type 0 where
  pub ins_are : ins ≡ Some (length input)
  pub outs_are : outs ≡ Some (length output)

abbrev pub Fits : Option ℕ → Option ℕ → KissForm → Type 0
Fits ins outs (InputsWidth count) = IsCount count
Fits ins outs (OutputsWidth count) = IsCount count
Fits ins outs (InputNames names) = AreNames ins names
Fits ins outs (OutputNames names) = AreNames outs names
Fits ins outs (StepRow input present next output) = IsWide ins outs input output
Fits ins outs _ = Unit {0}

wide_is : (width later : Option ℕ) (n : ℕ) → is_wide width n ≡ true → or_first width later ≡ Some n
wide_is None later n h = absurd (false≢true h)
wide_is (Some w) later n h = ap Some (sym (eqb-true n w h))

count_is : (count : Name) → is_width count ≡ true → nat_lt 256 (number_of count) ≡ false → IsCount count
count_is count h few = record {
  some = ltb-true 0 (number_of count) (and_parts (is_number count) _ h).1;
  few = lt_false 256 (number_of count) few;
}

names_are : (had any : Bool) (width later : Option ℕ) (names : List Name) → (not had && (not any && (is_wide width (length names) && list_all is_name names))) ≡ true → Come names → AreNames (or_first width later) names
names_are had any width later names h come =
    let parts = and_parts (not had) _ h in
    let more = and_parts (not any) _ parts.1 in
    let both = and_parts (is_wide width (length names)) (list_all is_name names) more.1 in
    record { wide = wide_is width later (length names) both.0; are = names_words names come both.1 }

row_is : (ins outs later later' : Option ℕ) (input output : Name) → (is_pattern ins input && is_pattern outs output) ≡ true → IsWide (or_first ins later) (or_first outs later') input output
row_is ins outs later later' input output h =
    let parts = and_parts (is_pattern ins input) (is_pattern outs output) h in
    record {
      ins_are = wide_is ins later (length input) (and_parts (is_wide ins (length input)) _ parts.0).0;
      outs_are = wide_is outs later' (length output) (and_parts (is_wide outs (length output)) _ parts.1).0;
    }

form_fits : (above rest : List KissForm) (form : KissForm) → form_stands above form ≡ true → IsWritten form → has_many_columns form ≡ false → Fits (or_first (input_width above) (input_width rest)) (or_first (output_width above) (output_width rest)) form
form_fits above rest (InputsWidth count) h written few = count_is count written few
form_fits above rest (OutputsWidth count) h written few = count_is count written few
form_fits above rest CountLine h written few = tt
form_fits above rest (ResetState name) h written few = tt
form_fits above rest (InputNames names) h written few = names_are (is_some (input_names_given above)) (list_any is_step above) (input_width above) (input_width rest) names h written
form_fits above rest (OutputNames names) h written few = names_are (is_some (output_names_given above)) (list_any is_step above) (output_width above) (output_width rest) names h written
form_fits above rest (StepRow input present next output) h written few = row_is (input_width above) (output_width above) (input_width rest) (output_width rest) input output h
form_fits above rest LastLine h written few = tt

abbrev pub AllFit : List KissForm → List KissForm → Type 0
AllFit whole text = AllByRecursion (Fits (input_width whole) (output_width whole)) text

forms_fit : (above text : List KissForm) → forms_stand above text ≡ true → AllByRecursion IsWritten text → list_any has_many_columns text ≡ false → AllFit (above ++ text) text
forms_fit above [] h written few = tt
forms_fit above (form ∷ text) h written few =
    let parts = and_parts (not (list_any is_last above)) _ h in
    let both = and_parts (form_stands above form) _ parts.1 in
    let small = neither (has_many_columns form) (list_any has_many_columns text) few in
    let here = form_fits above (form ∷ text) form both.0 written.0 small.0 in (
      subst (λ (outs : Option ℕ). Fits (input_width (above ++ form ∷ text)) outs form) (sym (output_width_append above (form ∷ text)))
          (subst (λ (ins : Option ℕ). Fits ins (or_first (output_width above) (output_width (form ∷ text))) form) (sym (input_width_append above (form ∷ text))) here),
      subst (λ (whole : List KissForm). AllFit whole text) (append_assoc above (form ∷ []) text) (forms_fit (above ++ form ∷ []) text both.1 written.1 small.1),
    )

-- each line of a text that stands fits its widths
pub text_fits : (bytes : List ℕ) (text : List KissForm) → map kiss_said_by (logical_lines bytes) ≡ map Some text → forms_stand [] text ≡ true → list_any has_many_columns text ≡ false → AllFit text text
text_fits bytes text says stand few = forms_fit [] text stand (text_written bytes text says) few

-- what follows for the text

-- the width of columns, and their names where they are given
pub record HaveColumns (width : Option ℕ) (given : Option (List Name)) : Type 0 where
  pub counted : (n : ℕ) → width ≡ Some n → (0 < n) × (n ≤ 256)
  pub named : (names : List Name) → given ≡ Some names → AreNames width names

same_count : (count : Name) (n : ℕ) → IsCount count → Some (number_of count) ≡ Some n → (0 < n) × (n ≤ 256)
same_count count n h is =
    let same : number_of count ≡ n = cc in
    subst (λ (m : ℕ). (0 < m) × (m ≤ 256)) same (h.some, h.few)

same_names : (width : Option ℕ) (names names' : List Name) → AreNames width names → Some names ≡ Some names' → AreNames width names'
same_names width names names' h is =
    let same : names ≡ names' = cc in
    subst (AreNames width) same h

inputs_counted : (ins outs : Option ℕ) (text : List KissForm) (n : ℕ) → AllByRecursion (Fits ins outs) text → input_width text ≡ Some n → (0 < n) × (n ≤ 256)
inputs_counted ins outs [] n h is = cc
inputs_counted ins outs ((InputsWidth count) ∷ text) n h is = same_count count n h.0 is
inputs_counted ins outs ((OutputsWidth count) ∷ text) n h is = inputs_counted ins outs text n h.1 is
inputs_counted ins outs (CountLine ∷ text) n h is = inputs_counted ins outs text n h.1 is
inputs_counted ins outs ((ResetState name) ∷ text) n h is = inputs_counted ins outs text n h.1 is
inputs_counted ins outs ((InputNames names) ∷ text) n h is = inputs_counted ins outs text n h.1 is
inputs_counted ins outs ((OutputNames names) ∷ text) n h is = inputs_counted ins outs text n h.1 is
inputs_counted ins outs ((StepRow input present next output) ∷ text) n h is = inputs_counted ins outs text n h.1 is
inputs_counted ins outs (LastLine ∷ text) n h is = inputs_counted ins outs text n h.1 is

outputs_counted : (ins outs : Option ℕ) (text : List KissForm) (n : ℕ) → AllByRecursion (Fits ins outs) text → output_width text ≡ Some n → (0 < n) × (n ≤ 256)
outputs_counted ins outs [] n h is = cc
outputs_counted ins outs ((InputsWidth count) ∷ text) n h is = outputs_counted ins outs text n h.1 is
outputs_counted ins outs ((OutputsWidth count) ∷ text) n h is = same_count count n h.0 is
outputs_counted ins outs (CountLine ∷ text) n h is = outputs_counted ins outs text n h.1 is
outputs_counted ins outs ((ResetState name) ∷ text) n h is = outputs_counted ins outs text n h.1 is
outputs_counted ins outs ((InputNames names) ∷ text) n h is = outputs_counted ins outs text n h.1 is
outputs_counted ins outs ((OutputNames names) ∷ text) n h is = outputs_counted ins outs text n h.1 is
outputs_counted ins outs ((StepRow input present next output) ∷ text) n h is = outputs_counted ins outs text n h.1 is
outputs_counted ins outs (LastLine ∷ text) n h is = outputs_counted ins outs text n h.1 is

inputs_named : (ins outs : Option ℕ) (text : List KissForm) (names : List Name) → AllByRecursion (Fits ins outs) text → input_names_given text ≡ Some names → AreNames ins names
inputs_named ins outs [] names h is = cc
inputs_named ins outs ((InputsWidth count) ∷ text) names h is = inputs_named ins outs text names h.1 is
inputs_named ins outs ((OutputsWidth count) ∷ text) names h is = inputs_named ins outs text names h.1 is
inputs_named ins outs (CountLine ∷ text) names h is = inputs_named ins outs text names h.1 is
inputs_named ins outs ((ResetState name) ∷ text) names h is = inputs_named ins outs text names h.1 is
inputs_named ins outs ((InputNames had) ∷ text) names h is = same_names ins had names h.0 is
inputs_named ins outs ((OutputNames had) ∷ text) names h is = inputs_named ins outs text names h.1 is
inputs_named ins outs ((StepRow input present next output) ∷ text) names h is = inputs_named ins outs text names h.1 is
inputs_named ins outs (LastLine ∷ text) names h is = inputs_named ins outs text names h.1 is

outputs_named : (ins outs : Option ℕ) (text : List KissForm) (names : List Name) → AllByRecursion (Fits ins outs) text → output_names_given text ≡ Some names → AreNames outs names
outputs_named ins outs [] names h is = cc
outputs_named ins outs ((InputsWidth count) ∷ text) names h is = outputs_named ins outs text names h.1 is
outputs_named ins outs ((OutputsWidth count) ∷ text) names h is = outputs_named ins outs text names h.1 is
outputs_named ins outs (CountLine ∷ text) names h is = outputs_named ins outs text names h.1 is
outputs_named ins outs ((ResetState name) ∷ text) names h is = outputs_named ins outs text names h.1 is
outputs_named ins outs ((InputNames had) ∷ text) names h is = outputs_named ins outs text names h.1 is
outputs_named ins outs ((OutputNames had) ∷ text) names h is = same_names outs had names h.0 is
outputs_named ins outs ((StepRow input present next output) ∷ text) names h is = outputs_named ins outs text names h.1 is
outputs_named ins outs (LastLine ∷ text) names h is = outputs_named ins outs text names h.1 is

pub have_inputs : (text : List KissForm) → AllFit text text → HaveColumns (input_width text) (input_names_given text)
have_inputs text h = record {
  counted = λ n is. inputs_counted (input_width text) (output_width text) text n h is;
  named = λ names is. inputs_named (input_width text) (output_width text) text names h is;
}

pub have_outputs : (text : List KissForm) → AllFit text text → HaveColumns (output_width text) (output_names_given text)
have_outputs text h = record {
  counted = λ n is. outputs_counted (input_width text) (output_width text) text n h is;
  named = λ names is. outputs_named (input_width text) (output_width text) text names h is;
}

-- a text with a row has its widths

no_rows : (text : List KissForm) → list_any is_step text ≡ false → flat_map states_on text ≡ []
no_rows [] h = refl
no_rows (form ∷ text) h =
    let parts = neither (is_step form) (list_any is_step text) h in
    let none = no_states_on form parts.0 in
    let rest = no_rows text parts.1 in
    (λ i. none i ++ rest i)

pub has_row : (text : List KissForm) → 0 < length (states_in text) → list_any is_step text ≡ true
has_row text some =
    elim (list_any is_step text) as (λ b. list_any is_step text ≡ b → b ≡ true) [
      | true ↦ λ is. refl
      | false ↦ λ is.
          let none : length (states_in text) ≡ 0 = ap (λ names. length (distinct [] names)) (no_rows text is) in
          absurd (omega arith)
    ] refl

pub widths_given : (ins outs : Option ℕ) (text : List KissForm) → AllByRecursion (Fits ins outs) text → list_any is_step text ≡ true → (is_some ins ≡ true) × (is_some outs ≡ true)
widths_given ins outs [] h row = cc
widths_given ins outs ((InputsWidth count) ∷ text) h row = widths_given ins outs text h.1 row
widths_given ins outs ((OutputsWidth count) ∷ text) h row = widths_given ins outs text h.1 row
widths_given ins outs (CountLine ∷ text) h row = widths_given ins outs text h.1 row
widths_given ins outs ((ResetState name) ∷ text) h row = widths_given ins outs text h.1 row
widths_given ins outs ((InputNames names) ∷ text) h row = widths_given ins outs text h.1 row
widths_given ins outs ((OutputNames names) ∷ text) h row = widths_given ins outs text h.1 row
widths_given ins outs ((StepRow input present next output) ∷ text) h row = (ap is_some h.0.ins_are, ap is_some h.0.outs_are)
widths_given ins outs (LastLine ∷ text) h row = widths_given ins outs text h.1 row
