-- Lines without a fault say a text whose rows fit their tables, and that is within the limits.
use Rattle.std.proofs.Common.{◌≡◌, ◌≤◌, ◌+◌, ◌||◌, ℕ, true, false, List, [], ◌∷◌, length, Option, Some, None, if◌then◌else◌, nat_lt, refl, sym, ◌∙◌, ap, subst, arith}
use Rattle.std.specs.List.{list_any, filter_map, cons_option}
use Rattle.std.proofs.lemmas.Bool.Decides.{nat_tests}
use Rattle.std.proofs.lemmas.List.{length-map}
use Rattle.lex_core.specs.LogicalLines.{LogicalLine, logical_lines}
use Rattle.net_model.specs.declared.directive.Directive.{Directive}
use Rattle.net_model.specs.declared.text_fault.TextFault.TheVariants.{At}
use Rattle.net_model.specs.declared.text_fault.TextKind.{TextKind}
use Rattle.net_model.specs.declared.text_fault.TextKind.TheVariants.{UnknownDirective, BadCount, RowWidth, NoModel, TwiceDefault, Hierarchy}
use Rattle.net_model.specs.declared.text_fault.Which.{Which}
use Rattle.net_model.specs.declared.text_fault.Which.TheVariants.{Signals, Values, Columns, Rows}
use Rattle.net_model.specs.Forms.{Name, Form, directive_of, shape_of, apart, words_of, said_by}
use Rattle.net_model.specs.NetTexts.{mentions, names_in, text_in, LinesSay}
use Rattle.blifmv_names.specs.declared.place.Place.{Place}
use Rattle.blifmv_names.specs.Signals.{Signal, names_of, with_mentions, signals_behind, signals_from}
use Rattle.blifmv_names.specs.LineFaults.{is_instance_word, is_unknown, is_misfit, is_second_default, has_many_values, has_many_columns, rows_on, limit_on, kind_of_names, limit_or, kind_of_form, kind_of_shape, kind_of_words, place_behind, fault_behind, first_fault, nothing_above, first_line, begins_model, line_fault}
use Rattle.blifmv_names.specs.Limits.{rows_in, rows_fit, IsFaultless}
use Rattle.blifmv_names.proofs.Gathered.{names_from, names_behind, names_all_mentioned}
use Rattle.blifmv_names.proofs.Faultless.{if_none, no_fault, text_says}

lt_false : (a b : ℕ) → nat_lt a b ≡ false → b ≤ a
lt_false a b h = grind (arith, nat_tests)

-- how many signals

length_names : (signals : List Signal) → length (names_of signals) ≡ length signals
length_names signals = length-map signals (λ signal. signal.name)

-- a domain that is given adds no signal
pub same_length : (signals : List Signal) (form : Form) → length (signals_behind signals form) ≡ length (with_mentions signals form)
same_length signals form =
    sym (length_names (signals_behind signals form))
    ∙ (ap length (names_behind signals form ∙ sym (names_all_mentioned signals (mentions form)))
    ∙ length_names (with_mentions signals form))

pub length_from : (text : List Form) → length (signals_from [] text) ≡ length (names_in text)
length_from text = sym (length_names (signals_from [] text)) ∙ ap length (names_from [] text)

-- one line

-- a line without a fault: what it says, of which nothing is wrong
record IsSound (place : Place) (signals : List Signal) (words : List Name) : Type 0 where
  form : Form
  shape : shape_of words ≡ Some form
  sound : kind_of_form place (with_mentions signals form) form ≡ None

sound_shape : (place : Place) (signals : List Signal) (words : List Name) (directive : Directive) (shape : Option Form) → shape_of words ≡ shape → kind_of_shape place signals directive shape ≡ None → IsSound place signals words
sound_shape place signals words directive None is h =
    elim (is_instance_word directive) as (λ b. (if b then Some Hierarchy else Some BadCount) ≡ None → IsSound place signals words) [
      | true ↦ λ e. cc
      | false ↦ λ e. cc
    ] h
sound_shape place signals words directive (Some form) is h = record { form = form; shape = is; sound = h }

sound_words : (place : Place) (signals : List Signal) (words : List Name) → kind_of_words place signals words ≡ None → IsSound place signals words
sound_words place signals [] h = cc
sound_words place signals (first ∷ words) h =
    let parts = if_none (is_unknown place (directive_of first) (first ∷ words)) UnknownDirective _ h in
    sound_shape place signals (first ∷ words) (directive_of first) (shape_of (first ∷ words)) refl parts.1

limit_none : (limit : Option Which) (kind : Option TextKind) → limit_or limit kind ≡ None → limit ≡ None
limit_none None kind h = refl
limit_none (Some which) kind h = cc

-- what the tests of such a line say
record Passes (place : Place) (signals : List Signal) (form : Form) : Type 0 where
  fit : (is_misfit place.width form || is_second_default place.width form) ≡ false
  few : length signals ≤ 4096
  values : has_many_values form ≡ false
  columns : has_many_columns form ≡ false
  rows : place.rows + rows_on form ≤ 1000000

passes : (place : Place) (signals : List Signal) (form : Form) → kind_of_form place signals form ≡ None → Passes place signals form
passes place signals form h =
    let width = if_none (is_misfit place.width form) RowWidth _ h in
    let default = if_none (is_second_default place.width form) TwiceDefault _ width.1 in
    let limit : limit_on place signals form ≡ None = limit_none (limit_on place signals form) (kind_of_names place signals form) default.1 in
    let few = if_none (nat_lt 4096 (length signals)) Signals _ limit in
    let values = if_none (has_many_values form) Values _ few.1 in
    let columns = if_none (has_many_columns form) Columns _ values.1 in
    let rows = if_none (nat_lt 1000000 (place.rows + rows_on form)) Rows None columns.1 in
    record {
      fit = (λ i. width.0 i || default.0 i);
      few = lt_false 4096 (length signals) few.0;
      values = values.0;
      columns = columns.0;
      rows = lt_false 1000000 (place.rows + rows_on form) rows.0;
    }

-- all lines

pub record Keeps (place : Place) (signals : List Signal) (text : List Form) : Type 0 where
  pub fit : rows_fit place.width text ≡ true
  pub values : list_any has_many_values text ≡ false
  pub columns : list_any has_many_columns text ≡ false
  pub rows : place.rows + rows_in text ≤ 1000000
  pub few : length (signals_from signals text) ≤ 4096

lines_keep : (lines : List LogicalLine) (place : Place) (signals : List Signal) → place.rows ≤ 1000000 → length signals ≤ 4096 → first_fault place signals lines ≡ None → Keeps place signals (filter_map said_by lines)
lines_keep [] place signals rows few h = record { fit = refl; values = refl; columns = refl; rows = omega arith; few = few }
lines_keep (line ∷ lines) place signals rows few h =
    let words = apart (words_of line) in
    let parts = no_fault (kind_of_words place signals words) line.number _ h in
    let sound = sound_words place signals words parts.0 in
    let form = sound.form in
    let rest : first_fault (place_behind place form) (signals_behind signals form) lines ≡ None =
    sym (ap (fault_behind (λ p s. first_fault p s lines) place signals) sound.shape) ∙ parts.1 in
    let text = filter_map said_by lines in
    let whole_text : filter_map said_by (line ∷ lines) ≡ form ∷ text = ap (λ o. cons_option o text) sound.shape in
    let here = passes place (with_mentions signals form) form sound.sound in
    let few_behind : length (signals_behind signals form) ≤ 4096 = subst (λ (n : ℕ). n ≤ 4096) (sym (same_length signals form)) here.few in
    let more = lines_keep lines (place_behind place form) (signals_behind signals form) here.rows few_behind rest in
    let rows_all : (place.rows + rows_on form) + rows_in text ≤ 1000000 = more.rows in
    subst (λ (t : List Form). Keeps place signals t) (sym whole_text) (record {
      fit = rw (here.fit, more.fit) refl;
      values = rw (here.values, more.values) refl;
      columns = rw (here.columns, more.columns) refl;
      rows = omega (arith, rows_all);
      few = more.few;
    })

-- the whole text

faultless : (bytes : List ℕ) → LinesSay bytes (text_in bytes) → first_fault nothing_above [] (logical_lines bytes) ≡ None → IsFaultless bytes
faultless bytes says h =
    let keeps = lines_keep (logical_lines bytes) nothing_above [] (omega arith) (omega arith) h in
    let rows : 0 + rows_in (text_in bytes) ≤ 1000000 = keeps.rows in
    record {
      says = says;
      fit = keeps.fit;
      within = record {
        signals = subst (λ (n : ℕ). n ≤ 4096) (length_from (text_in bytes)) keeps.few;
        values = keeps.values;
        columns = keeps.columns;
        rows = omega (arith, rows);
      };
    }

pub text_faultless : (bytes : List ℕ) → line_fault bytes ≡ None → IsFaultless bytes
text_faultless bytes h =
    let says = text_says bytes h in
    elim (begins_model (logical_lines bytes)) as (λ b. (if b then first_fault nothing_above [] (logical_lines bytes) else Some (At (first_line (logical_lines bytes)) NoModel)) ≡ None → IsFaultless bytes) [
      | true ↦ λ none. faultless bytes says none
      | false ↦ λ none. cc
    ] h
