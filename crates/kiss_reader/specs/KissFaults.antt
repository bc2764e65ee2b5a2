use Rattle.std.specs.Prelude.{◌≡◌, ◌≤◌, ◌+◌, ◌==◌, ℕ, Bool, true, false, not, ◌&&◌, ◌||◌, nat_lt, List, [], ◌∷◌, ◌++◌, length, Option, Some, None, if◌then◌else◌, is_some}
use Rattle.std.specs.List.{list_all, list_any, flat_map}
use Rattle.lex_core.specs.LogicalLines.{LogicalLine, logical_lines}
use Rattle.name_table.specs.Variables.{are_different}
use Rattle.net_model.specs.declared.kiss_directive.KissDirective.{KissDirective}
use Rattle.net_model.specs.declared.kiss_directive.KissDirective.TheVariants as directives
use Rattle.net_model.specs.declared.text_fault.TextFault.{TextFault}
use Rattle.net_model.specs.declared.text_fault.TextFault.TheVariants.{At}
use Rattle.net_model.specs.declared.text_fault.TextKind.{TextKind}
use Rattle.net_model.specs.declared.text_fault.TextKind.TheVariants as kinds
use Rattle.net_model.specs.declared.text_fault.Which.{Which}
use Rattle.net_model.specs.declared.text_fault.Which.TheVariants.{Signals, Values, Columns, Rows}
use Rattle.net_model.specs.Faults.{fault_or}
use Rattle.net_model.specs.Forms.{Name, is_name, number_of, words_of}
use Rattle.net_model.specs.NetTexts.{distinct}
use Rattle.net_model.specs.KissForms.{KissForm, InputsWidth, OutputsWidth, ResetState, InputNames, OutputNames, StepRow, kiss_directive_of, kiss_shape_of}
use Rattle.net_model.specs.Machines.{Machine}
use Rattle.net_model.specs.KissTexts.{input_width, output_width, reset_given, input_names_given, output_names_given, is_step, is_last, is_bit_byte, input_names, output_names, states_in, is_reset_known, kiss_text_in, StandsForMachine}

-- Which fault a machine's text has: in the first pass by each line and those above it, in the second by the whole text.
-- Within a pass the fault of the first line counts, and on one line the one that is tested first.

-- the first pass: of a line, below those that say this

abbrev pub is_end_word : KissDirective → Bool
is_end_word directives.End = true
is_end_word _ = false

abbrev pub is_unknown_word : KissDirective → Bool
is_unknown_word directives.Unknown = true
is_unknown_word _ = false

-- a directive that the format doesn't have; behind the end any line; words behind `.end` itself
abbrev pub is_unknown : List KissForm → KissDirective → List Name → Bool
is_unknown above directive words =
    is_unknown_word directive || (list_any is_last above || (is_end_word directive && nat_lt 1 (length words)))

-- a number of words that the directive doesn't have, where no width and no row is told
abbrev pub is_miscounted : KissDirective → Option KissForm → Bool
is_miscounted directives.Count shape = not (is_some shape)
is_miscounted directives.Reset shape = not (is_some shape)
is_miscounted _ shape = false

-- what is given once at most, for a second time; names behind a row
abbrev pub is_repeated : List KissForm → KissDirective → Bool
is_repeated above directives.Inputs = is_some (input_width above)
is_repeated above directives.Outputs = is_some (output_width above)
is_repeated above directives.Reset = is_some (reset_given above)
is_repeated above directives.InputNames = is_some (input_names_given above) || list_any is_step above
is_repeated above directives.OutputNames = is_some (output_names_given above) || list_any is_step above
is_repeated above _ = false

-- which count passes its limit at a line

abbrev pub column_names_on : KissForm → List Name
column_names_on (InputNames names) = names
column_names_on (OutputNames names) = names
column_names_on _ = []

-- the names of columns that the lines give, each once
abbrev pub column_names_in : List KissForm → List Name
column_names_in text = distinct [] (flat_map column_names_on text)

abbrev pub has_many_columns : KissForm → Bool
has_many_columns (InputsWidth count) = nat_lt 256 (number_of count)
has_many_columns (OutputsWidth count) = nat_lt 256 (number_of count)
has_many_columns _ = false

abbrev pub rows_in : List KissForm → ℕ
rows_in [] = 0
rows_in (StepRow input present next output ∷ text) = rows_in text + 1
rows_in (_ ∷ text) = rows_in text

abbrev pub is_row_word : KissDirective → Bool
is_row_word directives.Row = true
is_row_word _ = false

-- a row of any shape counts as one
abbrev pub rows_limit : List KissForm → KissDirective → Option Which
rows_limit above directive = if is_row_word directive && nat_lt 1000000 (rows_in above + 1) then Some Rows else None

abbrev pub kiss_limit : List KissForm → KissDirective → Option KissForm → Option Which
kiss_limit above directive None = rows_limit above directive
kiss_limit above directive (Some form) =
    if nat_lt 4096 (length (column_names_in (above ++ form ∷ []))) then Some Signals
    else (if nat_lt 65536 (length (states_in (above ++ form ∷ []))) then Some Values
    else (if has_many_columns form then Some Columns else rows_limit above directive))

-- a name of a column that can't be one
abbrev pub has_bad_name : KissForm → Bool
has_bad_name form = not (list_all is_name (column_names_on form))

-- as many as the width says, where it is known
abbrev pub agrees : Option ℕ → ℕ → Bool
agrees None n = true
agrees (Some width) n = n == width

abbrev pub has_bad_width : List KissForm → KissForm → Bool
has_bad_width above (InputNames names) = not (agrees (input_width above) (length names))
has_bad_width above (OutputNames names) = not (agrees (output_width above) (length names))
has_bad_width above (StepRow input present next output) =
    not (agrees (input_width above) (length input) && agrees (output_width above) (length output))
has_bad_width above _ = false

abbrev pub has_bad_bit : KissForm → Bool
has_bad_bit (StepRow input present next output) = not (list_all is_bit_byte input && list_all is_bit_byte output)
has_bad_bit _ = false

-- names and rows above the widths of their columns
abbrev pub misses_widths : List KissForm → KissForm → Bool
misses_widths above (InputNames names) = not (is_some (input_width above))
misses_widths above (OutputNames names) = not (is_some (output_width above))
misses_widths above (StepRow input present next output) = not (is_some (input_width above) && is_some (output_width above))
misses_widths above _ = false

-- a line without a shape that is nothing else is a width that is none, or a row that hasn't four words
abbrev pub kind_of_shape : List KissForm → Option KissForm → Option TextKind
kind_of_shape above None = Some kinds.BadWidth
kind_of_shape above (Some form) =
    if has_bad_name form then Some kinds.BadName
    else (if has_bad_width above form then Some kinds.BadWidth
    else (if has_bad_bit form then Some kinds.BadBit
    else (if misses_widths above form then Some kinds.MissingWidths else None)))

abbrev pub limit_or : Option Which → Option TextKind → Option TextKind
limit_or None kind = kind
limit_or (Some which) kind = Some (kinds.Limit which)

abbrev pub kind_by : List KissForm → KissDirective → List Name → Option KissForm → Option TextKind
kind_by above directive words shape =
    if is_unknown above directive words then Some kinds.UnknownDirective
    else (if is_miscounted directive shape || is_repeated above directive then Some kinds.BadCount
    else limit_or (kiss_limit above directive shape) (kind_of_shape above shape))

abbrev pub kind_of_words : List KissForm → List Name → Option TextKind
kind_of_words above [] = None
kind_of_words above (first ∷ words) = kind_by above (kiss_directive_of first) (first ∷ words) (kiss_shape_of (first ∷ words))

-- the fault of these lines, where the next one has the shape that it should have
abbrev pub fault_behind : (List KissForm → Option TextFault) → List KissForm → Option KissForm → Option TextFault
fault_behind more above None = None
fault_behind more above (Some form) = more (above ++ form ∷ [])

-- the first fault of these lines, below those that say this
abbrev pub form_fault : List KissForm → List LogicalLine → Option TextFault
form_fault above [] = None
form_fault above (line ∷ lines) =
    fault_or (kind_of_words above (words_of line)) line.number
    (fault_behind (λ above'. form_fault above' lines) above (kiss_shape_of (words_of line)))

-- the second pass: of a line, where the whole text says this

-- the first row, where two columns have one name
abbrev pub drives_twice : List KissForm → List KissForm → KissForm → Bool
drives_twice text above form =
    is_step form && (not (list_any is_step above) && not (are_different (input_names text ++ output_names text)))

-- a state to start in that stands in no row
abbrev pub resets_unknown : List KissForm → KissForm → Bool
resets_unknown text (ResetState name) = not (is_reset_known (states_in text) (Some name))
resets_unknown text _ = false

abbrev pub is_empty : List LogicalLine → Bool
is_empty [] = true
is_empty (line ∷ lines) = false

-- of the line that says this, below those that say that, and above these
abbrev pub kind_in_text : List KissForm → List KissForm → KissForm → List LogicalLine → Option TextKind
kind_in_text text above form below =
    if drives_twice text above form then Some kinds.DrivenTwice
    else (if resets_unknown text form then Some kinds.UnknownReset
    else (if is_empty below && (length (states_in text) == 0) then Some kinds.NoRows else None))

abbrev pub fault_of_form : (List KissForm → Option TextFault) → List KissForm → List KissForm → Option KissForm → LogicalLine → List LogicalLine → Option TextFault
fault_of_form more text above None line below = None
fault_of_form more text above (Some form) line below =
    fault_or (kind_in_text text above form below) line.number (more (above ++ form ∷ []))

abbrev pub text_fault : List KissForm → List KissForm → List LogicalLine → Option TextFault
text_fault text above [] = None
text_fault text above (line ∷ lines) =
    fault_of_form (λ above'. text_fault text above' lines) text above (kiss_shape_of (words_of line)) line lines

-- both passes

-- the fault of an earlier pass, or else that of a later one
abbrev pub first_of : Option TextFault → Option TextFault → Option TextFault
first_of None later = later
first_of (Some fault) later = Some fault

-- the line of the first word, and line 1 where there is no word
abbrev pub first_line : List LogicalLine → ℕ
first_line [] = 1
first_line (line ∷ lines) = line.number

-- the first word is a directive of KISS2
abbrev pub begins_with_directive : List Name → Bool
begins_with_directive [] = false
begins_with_directive (first ∷ words) =
    not (is_unknown_word (kiss_directive_of first) || is_row_word (kiss_directive_of first))

abbrev pub begins_machine : List LogicalLine → Bool
begins_machine [] = false
begins_machine (line ∷ lines) = begins_with_directive (words_of line)

-- the fault of a text that should be one of a machine
abbrev pub kiss_fault : List ℕ → Option TextFault
kiss_fault bytes =
    if begins_machine (logical_lines bytes) then
    first_of (form_fault [] (logical_lines bytes)) (text_fault (kiss_text_in bytes) [] (logical_lines bytes))
    else Some (At (first_line (logical_lines bytes)) kinds.NoModel)

-- no count of the text passes its limit
pub record IsWithinLimits (text : List KissForm) : Type 0 where
  pub signals : length (column_names_in text) ≤ 4096
  pub values : length (states_in text) ≤ 65536
  pub columns : list_any has_many_columns text ≡ false
  pub rows : rows_in text ≤ 1000000

-- the bytes stand for a machine, and pass no limit
pub record StandsWithinLimits (bytes : List ℕ) : Type 0 where
  pub machine : Machine
  pub stands : StandsForMachine bytes machine
  pub within : IsWithinLimits (kiss_text_in bytes)
