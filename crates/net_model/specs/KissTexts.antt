use Rattle.std.specs.Prelude.{◌≡◌, ◌<◌, ◌==◌, ℕ, Bool, true, false, not, ◌&&◌, ◌||◌, List, [], ◌∷◌, ◌++◌, length, map, filter, Option, Some, None, if◌then◌else◌, is_some, unwrap_or, codes, decimal}
use Rattle.std.specs.Str.{bytes_eq}
use Rattle.std.specs.List.{list_all, list_any, flat_map, filter_map, range_with_len}
use Rattle.lex_core.specs.LogicalLines.{logical_lines}
use Rattle.name_table.specs.Variables.{is_in, place_of, are_different, numbers}
use Rattle.net_model.specs.Words.{Scope}
use Rattle.net_model.specs.Forms.{Name, is_name, number_of}
use Rattle.net_model.specs.NetTexts.{distinct}
use Rattle.net_model.specs.KissForms.{KissForm, InputsWidth, OutputsWidth, CountLine, ResetState, InputNames, OutputNames, StepRow, LastLine, kiss_said_by}
use Rattle.net_model.specs.Machines.{KissRow, Machine}
use Rattle.net_model.specs.declared.machine.Bit.{Bit}
use Rattle.net_model.specs.declared.machine.Bit.TheVariants.{Zero, One, Either}

-- The machine that a text of KISS2 stands for. The text is here the list of what its lines say.

-- what the lines give, where they do

abbrev pub input_width : List KissForm → Option ℕ
input_width [] = None
input_width (InputsWidth count ∷ text) = Some (number_of count)
input_width (_ ∷ text) = input_width text

abbrev pub output_width : List KissForm → Option ℕ
output_width [] = None
output_width (OutputsWidth count ∷ text) = Some (number_of count)
output_width (_ ∷ text) = output_width text

abbrev pub reset_given : List KissForm → Option Name
reset_given [] = None
reset_given (ResetState name ∷ text) = Some name
reset_given (_ ∷ text) = reset_given text

abbrev pub input_names_given : List KissForm → Option (List Name)
input_names_given [] = None
input_names_given (InputNames names ∷ text) = Some names
input_names_given (_ ∷ text) = input_names_given text

abbrev pub output_names_given : List KissForm → Option (List Name)
output_names_given [] = None
output_names_given (OutputNames names ∷ text) = Some names
output_names_given (_ ∷ text) = output_names_given text

-- where a line may stand

abbrev pub is_step : KissForm → Bool
is_step (StepRow input present next output) = true
is_step _ = false

abbrev pub is_last : KissForm → Bool
is_last LastLine = true
is_last _ = false

-- the width is given, and is this number
abbrev pub is_wide : Option ℕ → ℕ → Bool
is_wide None n = false
is_wide (Some width) n = n == width

-- names for so many columns, given for the first time and before the rows
abbrev pub names_stand : List KissForm → Option (List Name) → Option ℕ → List Name → Bool
names_stand above had width names =
    not (is_some had) && (not (list_any is_step above) && (is_wide width (length names) && list_all is_name names))

-- the bytes `0`, `1` and `-`
abbrev pub is_bit_byte : ℕ → Bool
is_bit_byte b = (b == 48) || ((b == 49) || (b == 45))

-- a pattern for so many columns
abbrev pub is_pattern : Option ℕ → Name → Bool
is_pattern width word = is_wide width (length word) && list_all is_bit_byte word

-- The line can stand below these: nothing stands behind the end; a width, the state to start in and names are given once
-- at most; names and rows stand behind the widths of their columns.
abbrev pub form_stands : List KissForm → KissForm → Bool
form_stands above (InputsWidth count) = not (is_some (input_width above))
form_stands above (OutputsWidth count) = not (is_some (output_width above))
form_stands above CountLine = true
form_stands above (ResetState name) = not (is_some (reset_given above))
form_stands above (InputNames names) = names_stand above (input_names_given above) (input_width above) names
form_stands above (OutputNames names) = names_stand above (output_names_given above) (output_width above) names
form_stands above (StepRow input present next output) =
    is_pattern (input_width above) input && is_pattern (output_width above) output
form_stands above LastLine = true

abbrev pub forms_stand : List KissForm → List KissForm → Bool
forms_stand above [] = true
forms_stand above (form ∷ text) =
    not (list_any is_last above) && (form_stands above form && forms_stand (above ++ form ∷ []) text)

-- the text begins with a directive
abbrev pub opens_machine : List KissForm → Bool
opens_machine [] = false
opens_machine (form ∷ text) = not (is_step form)

-- columns, states and rows

-- so many names: these bytes with the numbers 0, 1 and so on
abbrev pub numbered_names : List ℕ → ℕ → List Name
numbered_names front n = map (λ k. front ++ decimal k) (range_with_len 0 n)

abbrev pub input_names : List KissForm → List Name
input_names text = unwrap_or (input_names_given text) (numbered_names (codes "x") (unwrap_or (input_width text) 0))

abbrev pub output_names : List KissForm → List Name
output_names text = unwrap_or (output_names_given text) (numbered_names (codes "z") (unwrap_or (output_width text) 0))

abbrev pub columns_named : List Name → Scope
columns_named names = map (λ name. record { name = name; values = numbers 2 }) names

-- the words `-` and `*` mean every state
abbrev pub is_every_state : Name → Bool
is_every_state word = bytes_eq word (codes "-") || bytes_eq word (codes "*")

-- the states on a line, the present one first
abbrev pub states_on : KissForm → List Name
states_on (StepRow input present next output) = filter (λ word. not (is_every_state word)) (present ∷ next ∷ [])
states_on _ = []

-- the states of the text, in the order of first appearance
abbrev pub states_in : List KissForm → List Name
states_in text = distinct [] (flat_map states_on text)

abbrev pub state_in : List Name → Name → ℕ
state_in states name = unwrap_or (place_of states name) 0

abbrev pub state_said : List Name → Name → Option ℕ
state_said states word = if is_every_state word then None else Some (state_in states word)

abbrev pub bit_of : ℕ → Bit
bit_of b = if b == 48 then Zero else (if b == 49 then One else Either)

abbrev pub kiss_rows_on : List Name → KissForm → List KissRow
kiss_rows_on states (StepRow input present next output) =
    record {
      input = map bit_of input;
      present = state_said states present;
      next = state_said states next;
      output = map bit_of output;
    }
    ∷ []
kiss_rows_on states _ = []

-- without a name the machine starts in the first state
abbrev pub reset_said : List Name → Option Name → ℕ
reset_said states None = 0
reset_said states (Some name) = state_in states name

abbrev pub is_reset_known : List Name → Option Name → Bool
is_reset_known states None = true
is_reset_known states (Some name) = is_in states name

-- what the lines say together
abbrev pub machine_said : List KissForm → Machine
machine_said text = record {
  inputs = columns_named (input_names text);
  outputs = columns_named (output_names text);
  states = length (states_in text);
  reset = reset_said (states_in text) (reset_given text);
  rows = flat_map (kiss_rows_on (states_in text)) text;
}

-- what the lines of the bytes say that have the form of their directive
abbrev pub kiss_text_in : List ℕ → List KissForm
kiss_text_in bytes = filter_map kiss_said_by (logical_lines bytes)

-- The bytes stand for the machine: it is the one that their lines say. Each line has the form of its directive and can
-- stand where it does, no two columns have one name, some row names a state, and one names the state to start in.
pub record StandsForMachine (bytes : List ℕ) (machine : Machine) : Type 0 where
  pub text : List KissForm
  pub lines : map kiss_said_by (logical_lines bytes) ≡ map Some text
  pub begins : opens_machine text ≡ true
  pub stand : forms_stand [] text ≡ true
  pub columns : are_different (input_names text ++ output_names text) ≡ true
  pub states : 0 < length (states_in text)
  pub reset : is_reset_known (states_in text) (reset_given text) ≡ true
  pub says : machine ≡ machine_said text
