use Rattle.std.specs.Prelude.{ℕ, List, [], ◌∷◌, Option, Some, None}
use Rattle.std.specs.Option.{option_map}
use Rattle.net_model.specs.Forms.{Name, number_of}
use Rattle.net_model.specs.KissForms.{KissForm, InputsWidth, OutputsWidth, ResetState, InputNames, OutputNames}
use Rattle.net_model.specs.KissTexts.{reset_given, input_names_given, output_names_given}
use Rattle.blifmv_lines.specs.Said.{texts}
use Rattle.kiss_reader.specs.declared.header.Header.{Header}

-- The names that lines give once.

pub record Given : Type 0 where
  pub reset : Option Name
  pub inputs : Option (List Name)
  pub outputs : Option (List Name)

abbrev pub header_said : Header → Given
header_said header = record {
  reset = option_map (λ name. name.now) header.reset;
  inputs = option_map (λ names. texts names.items) header.inputs;
  outputs = option_map (λ names. texts names.items) header.outputs;
}

abbrev pub nothing_given : Given
nothing_given = record { reset = None; inputs = None; outputs = None }

-- what is there, or else what comes later
abbrev pub or_first : {T : Type 0} → Option T → Option T → Option T
or_first None later = later
or_first (Some had) later = Some had

-- what a line gives

abbrev pub input_width_on : KissForm → Option ℕ
input_width_on (InputsWidth count) = Some (number_of count)
input_width_on _ = None

abbrev pub output_width_on : KissForm → Option ℕ
output_width_on (OutputsWidth count) = Some (number_of count)
output_width_on _ = None

abbrev pub reset_on : KissForm → Option Name
reset_on (ResetState name) = Some name
reset_on _ = None

abbrev pub input_names_on : KissForm → Option (List Name)
input_names_on (InputNames names) = Some names
input_names_on _ = None

abbrev pub output_names_on : KissForm → Option (List Name)
output_names_on (OutputNames names) = Some names
output_names_on _ = None

abbrev pub header_behind : Given → KissForm → Given
header_behind given form = record {
  reset = or_first given.reset (reset_on form);
  inputs = or_first given.inputs (input_names_on form);
  outputs = or_first given.outputs (output_names_on form);
}

abbrev pub headers_from : Given → List KissForm → Given
headers_from given [] = given
headers_from given (form ∷ text) = headers_from (header_behind given form) text

-- what the text gives
abbrev pub given_in : List KissForm → Given
given_in text = record {
  reset = reset_given text;
  inputs = input_names_given text;
  outputs = output_names_given text;
}
