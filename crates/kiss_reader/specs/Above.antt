use Rattle.std.specs.Prelude.{◌≡◌, ◌≤◌, ◌+◌, ℕ, Bool, true, false, not, ◌&&◌, ◌||◌, nat_lt, List, [], ◌∷◌, length, Option, Some, None, if◌then◌else◌, is_some}
use Rattle.std.specs.List.{list_any}
use Rattle.lex_core.specs.LogicalLines.{LogicalLine}
use Rattle.net_model.specs.declared.kiss_directive.KissDirective.{KissDirective}
use Rattle.net_model.specs.declared.kiss_directive.KissDirective.TheVariants as directives
use Rattle.net_model.specs.declared.text_fault.TextFault.{TextFault}
use Rattle.net_model.specs.declared.text_fault.TextKind.{TextKind}
use Rattle.net_model.specs.declared.text_fault.TextKind.TheVariants as kinds
use Rattle.net_model.specs.declared.text_fault.Which.{Which}
use Rattle.net_model.specs.declared.text_fault.Which.TheVariants.{Signals, Values, Columns, Rows}
use Rattle.net_model.specs.Faults.{fault_or}
use Rattle.net_model.specs.Forms.{Name, words_of}
use Rattle.net_model.specs.NetTexts.{distinct}
use Rattle.net_model.specs.KissForms.{KissForm, InputNames, OutputNames, StepRow, kiss_directive_of, kiss_shape_of, kiss_said_by}
use Rattle.net_model.specs.KissTexts.{input_width, output_width, reset_given, input_names_given, output_names_given, is_last, states_on}
use Rattle.kiss_reader.specs.declared.place.Place.{Place}
use Rattle.kiss_reader.specs.Header.{or_first, input_width_on, output_width_on, reset_on, input_names_on, output_names_on}
use Rattle.kiss_reader.specs.KissFaults.{is_end_word, is_unknown_word, is_row_word, is_miscounted, column_names_on, has_many_columns, rows_in, agrees, has_bad_name, has_bad_bit, limit_or}

-- The first pass by what is kept of the lines above: a place, the names of columns and those of states.

abbrev pub is_unknown_at : Place → KissDirective → List Name → Bool
is_unknown_at place directive words =
    is_unknown_word directive || (place.ended || (is_end_word directive && nat_lt 1 (length words)))

abbrev pub is_repeated_at : Place → KissDirective → Bool
is_repeated_at place directives.Inputs = is_some place.inputs
is_repeated_at place directives.Outputs = is_some place.outputs
is_repeated_at place directives.Reset = place.has_reset
is_repeated_at place directives.InputNames = place.has_inputs || nat_lt 0 place.rows
is_repeated_at place directives.OutputNames = place.has_outputs || nat_lt 0 place.rows
is_repeated_at place _ = false

abbrev pub rows_limit_at : Place → KissDirective → Option Which
rows_limit_at place directive = if is_row_word directive && nat_lt 1000000 (place.rows + 1) then Some Rows else None

-- the names of columns, and the states, with those of a line
abbrev pub columns_behind : List Name → KissForm → List Name
columns_behind columns form = distinct columns (column_names_on form)

abbrev pub states_behind : List Name → KissForm → List Name
states_behind states form = distinct states (states_on form)

-- beside that of the names
abbrev pub limit_of_counts : Place → KissDirective → KissForm → Option Which
limit_of_counts place directive form = if has_many_columns form then Some Columns else rows_limit_at place directive

abbrev pub limit_at : Place → List Name → List Name → KissDirective → KissForm → Option Which
limit_at place columns states directive form =
    if nat_lt 4096 (length (columns_behind columns form)) then Some Signals
    else (if nat_lt 65536 (length (states_behind states form)) then Some Values
    else limit_of_counts place directive form)

abbrev pub has_bad_width_at : Place → KissForm → Bool
has_bad_width_at place (InputNames names) = not (agrees place.inputs (length names))
has_bad_width_at place (OutputNames names) = not (agrees place.outputs (length names))
has_bad_width_at place (StepRow input present next output) =
    not (agrees place.inputs (length input) && agrees place.outputs (length output))
has_bad_width_at place _ = false

abbrev pub misses_widths_at : Place → KissForm → Bool
misses_widths_at place (InputNames names) = not (is_some place.inputs)
misses_widths_at place (OutputNames names) = not (is_some place.outputs)
misses_widths_at place (StepRow input present next output) = not (is_some place.inputs && is_some place.outputs)
misses_widths_at place _ = false

abbrev pub kind_of_form_at : Place → KissForm → Option TextKind
kind_of_form_at place form =
    if has_bad_name form then Some kinds.BadName
    else (if has_bad_width_at place form then Some kinds.BadWidth
    else (if has_bad_bit form then Some kinds.BadBit
    else (if misses_widths_at place form then Some kinds.MissingWidths else None)))

abbrev pub kind_of_shape_at : Place → List Name → List Name → KissDirective → Option KissForm → Option TextKind
kind_of_shape_at place columns states directive None = limit_or (rows_limit_at place directive) (Some kinds.BadWidth)
kind_of_shape_at place columns states directive (Some form) =
    limit_or (limit_at place columns states directive form) (kind_of_form_at place form)

abbrev pub kind_by_at : Place → List Name → List Name → KissDirective → List Name → Option KissForm → Option TextKind
kind_by_at place columns states directive words shape =
    if is_unknown_at place directive words then Some kinds.UnknownDirective
    else (if is_miscounted directive shape || is_repeated_at place directive then Some kinds.BadCount
    else kind_of_shape_at place columns states directive shape)

-- a line has a word
abbrev pub kind_at : Place → List Name → List Name → List Name → Option TextKind
kind_at place columns states [] = Some kinds.BadCount
kind_at place columns states (first ∷ words) =
    kind_by_at place columns states (kiss_directive_of first) (first ∷ words) (kiss_shape_of (first ∷ words))

-- what stands above the next line

abbrev pub rows_on : KissForm → ℕ
rows_on (StepRow input present next output) = 1
rows_on _ = 0

abbrev pub place_behind : Place → KissForm → Place
place_behind place form = record {
  inputs = or_first place.inputs (input_width_on form);
  outputs = or_first place.outputs (output_width_on form);
  has_reset = place.has_reset || is_some (reset_on form);
  has_inputs = place.has_inputs || is_some (input_names_on form);
  has_outputs = place.has_outputs || is_some (output_names_on form);
  rows = place.rows + rows_on form;
  ended = place.ended || is_last form;
}

abbrev pub places_from : Place → List KissForm → Place
places_from place [] = place
places_from place (form ∷ text) = places_from (place_behind place form) text

abbrev pub nothing_above : Place
nothing_above = record {
  inputs = None;
  outputs = None;
  has_reset = false;
  has_inputs = false;
  has_outputs = false;
  rows = 0;
  ended = false;
}

-- the place below these lines
abbrev pub place_of : List KissForm → Place
place_of above = record {
  inputs = input_width above;
  outputs = output_width above;
  has_reset = is_some (reset_given above);
  has_inputs = is_some (input_names_given above);
  has_outputs = is_some (output_names_given above);
  rows = rows_in above;
  ended = list_any is_last above;
}

-- the fault of lines behind one that says this
abbrev pub fault_past : (KissForm → Option TextFault) → Option KissForm → Option TextFault
fault_past more None = None
fault_past more (Some form) = more form

-- the first fault of these lines
abbrev pub fault_from : Place → List Name → List Name → List LogicalLine → Option TextFault
fault_from place columns states [] = None
fault_from place columns states (line ∷ lines) =
    fault_or (kind_at place columns states (words_of line)) line.number
    (fault_past
    (λ form. fault_from (place_behind place form) (columns_behind columns form) (states_behind states form) lines)
    (kiss_said_by line))

-- a line that says this is taken: its names are with the others
pub record IsFormTaken (columns columns' states states' : List Name) (form : KissForm) : Type 0 where
  pub columns_are : columns' ≡ columns_behind columns form
  pub states_are : states' ≡ states_behind states form
  pub few_columns : length columns' ≤ 4096
  pub few_states : length states' ≤ 65536
  pub few : has_many_columns form ≡ false

-- so is one with these words
pub record IsTaken (columns columns' states states' : List Name) (words : List Name) (form : KissForm) : Type 0 where
  pub says : kiss_shape_of words ≡ Some form
  pub taken : IsFormTaken columns columns' states states' form

-- the names are these, or there are too many of them
abbrev pub AreFew : ℕ → List Name → List Name → Bool → Type 0
AreFew most wanted names true = (names ≡ wanted) × (length wanted ≤ most)
AreFew most wanted names false = nat_lt most (length wanted) ≡ true
