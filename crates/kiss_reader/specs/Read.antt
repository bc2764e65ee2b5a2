use Rattle.std.specs.Prelude.{◌≡◌, ◌≤◌, ◌++◌, ℕ, Bool, not, List, length, Option, unwrap_or, codes}
use Rattle.std.specs.List.{flat_map}
use Rattle.name_table.specs.Variables.{are_different}
use Rattle.net_model.specs.Forms.{Name}
use Rattle.net_model.specs.KissForms.{KissForm}
use Rattle.net_model.specs.KissTexts.{numbered_names, columns_named, kiss_rows_on, reset_said, states_in}
use Rattle.net_model.specs.Machines.{Machine}
use Rattle.kiss_reader.specs.Above.{nothing_above, places_from}
use Rattle.kiss_reader.specs.Header.{header_said, nothing_given, headers_from}
use Rattle.kiss_reader.specs.declared.first_pass.Read.{Read}

-- What the first pass reads of a text, and the machine that it makes with the rows.

-- the names of so many columns, where these are given
abbrev pub names_or : Option (List Name) → List ℕ → Option ℕ → List Name
names_or given front width = unwrap_or given (numbered_names front (unwrap_or width 0))

abbrev pub inputs_in : Read → List Name
inputs_in read = names_or (header_said read.header).inputs (codes "x") read.place.inputs

abbrev pub outputs_in : Read → List Name
outputs_in read = names_or (header_said read.header).outputs (codes "z") read.place.outputs

-- two columns have one name
abbrev pub repeats_in : Read → Bool
repeats_in read = not (are_different (inputs_in read ++ outputs_in read))

abbrev pub machine_read : Read → List KissForm → Machine
machine_read read text = record {
  inputs = columns_named (inputs_in read);
  outputs = columns_named (outputs_in read);
  states = length read.states;
  reset = reset_said read.states (header_said read.header).reset;
  rows = flat_map (kiss_rows_on read.states) text;
}

-- what is read is within the limits
pub record IsSmall (read : Read) : Type 0 where
  pub states : length read.states ≤ 65536
  pub inputs : length (inputs_in read) ≤ 16384
  pub outputs : length (outputs_in read) ≤ 16384

pub record IsRead (text : List KissForm) (read : Read) : Type 0 where
  pub place : read.place ≡ places_from nothing_above text
  pub header : header_said read.header ≡ headers_from nothing_given text
  pub states : read.states ≡ states_in text
  pub few : length read.states ≤ 65536
