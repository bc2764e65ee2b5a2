use Rattle.std.specs.Prelude.{Bool, not, ◌||◌, List, [], ◌∷◌, filter, Option, None}
use Rattle.net_model.specs.Forms.{Name}
use Rattle.net_model.specs.KissForms as forms
use Rattle.net_model.specs.KissForms.{KissForm, kiss_directive_of, step_shape}
use Rattle.net_model.specs.KissTexts.{is_every_state}
use Rattle.blifmv_lines.specs.Said.{texts}
use Rattle.kiss_reader.specs.KissFaults.{is_unknown_word, is_row_word}
use Rattle.kiss_reader.specs.declared.form.Form.{Form}
use Rattle.kiss_reader.specs.declared.form.Form.TheVariants as lines

-- What is read, in the words of the definitions.

-- what a line says
abbrev pub form_said : Form → KissForm
form_said (lines.Inputs count) = forms.InputsWidth count.now
form_said (lines.Outputs count) = forms.OutputsWidth count.now
form_said lines.Count = forms.CountLine
form_said (lines.Reset name) = forms.ResetState name.now
form_said (lines.InputNames names) = forms.InputNames (texts names.now)
form_said (lines.OutputNames names) = forms.OutputNames (texts names.now)
form_said (lines.Row input present next output) = forms.StepRow input.now present.now next.now output.now
form_said lines.End = forms.LastLine

-- the shape of a line that is a row
abbrev pub row_shape : List Name → Option KissForm
row_shape [] = None
row_shape (first ∷ words) = step_shape first words

-- a word that is a directive of KISS2
abbrev pub is_machine_word : Name → Bool
is_machine_word word = not (is_unknown_word (kiss_directive_of word) || is_row_word (kiss_directive_of word))

-- the states that two words name
abbrev pub states_named : Name → Name → List Name
states_named present next = filter (λ word. not (is_every_state word)) (present ∷ next ∷ [])
