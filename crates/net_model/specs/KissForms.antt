use Rattle.std.specs.Prelude.{ℕ, ◌||◌, ◌&&◌, Bool, nat_lt, List, [], ◌∷◌, Option, Some, None, if◌then◌else◌, codes}
use Rattle.std.specs.Str.{bytes_eq}
use Rattle.lex_core.specs.LogicalLines.{LogicalLine}
use Rattle.net_model.specs.Forms.{Name, begins_with, is_number, number_of, words_of}
use Rattle.net_model.specs.declared.kiss_directive.KissDirective.{KissDirective}
use Rattle.net_model.specs.declared.kiss_directive.KissDirective.TheVariants as directives

-- The lines of a machine's text in KISS2: what each says, by its words alone.

-- what a line says that has the form of its directive
pub data KissForm : Type 0 where
  -- how many input columns and how many output columns there are, in decimal digits
  InputsWidth : Name → KissForm
  OutputsWidth : Name → KissForm
  -- a number of rows or of states, which is not compared
  CountLine : KissForm
  -- the name of the state in which the machine starts
  ResetState : Name → KissForm
  -- the names of the input columns, of the output columns
  InputNames : List Name → KissForm
  OutputNames : List Name → KissForm
  -- the pattern of the inputs, the present state, the next state, the pattern of the outputs
  StepRow : Name → Name → Name → Name → KissForm
  LastLine : KissForm

-- what the first word of a line tells
abbrev pub kiss_directive_of : Name → KissDirective
kiss_directive_of word =
    if bytes_eq word (codes ".i") then directives.Inputs
    else (if bytes_eq word (codes ".o") then directives.Outputs
    else (if bytes_eq word (codes ".p") || bytes_eq word (codes ".s") then directives.Count
    else (if bytes_eq word (codes ".r") then directives.Reset
    else (if bytes_eq word (codes ".ilb") then directives.InputNames
    else (if bytes_eq word (codes ".ob") then directives.OutputNames
    else (if bytes_eq word (codes ".end") || bytes_eq word (codes ".e") then directives.End
    else (if begins_with 46 word then directives.Unknown else directives.Row)))))))

-- decimal digits of a number from 1 up
abbrev pub is_width : Name → Bool
is_width word = is_number word && nat_lt 0 (number_of word)

abbrev pub width_shape : (Name → KissForm) → List Name → Option KissForm
width_shape line [] = None
width_shape line (word ∷ []) = if is_width word then Some (line word) else None
width_shape line (word ∷ other ∷ words) = None

-- one word
abbrev pub word_shape : (Name → KissForm) → List Name → Option KissForm
word_shape line [] = None
word_shape line (word ∷ []) = Some (line word)
word_shape line (word ∷ other ∷ words) = None

abbrev pub last_shape : List Name → Option KissForm
last_shape [] = Some LastLine
last_shape (word ∷ words) = None

-- behind the pattern of the inputs: the states, and the pattern of the outputs
abbrev pub step_shape : Name → List Name → Option KissForm
step_shape input [] = None
step_shape input (present ∷ []) = None
step_shape input (present ∷ next ∷ []) = None
step_shape input (present ∷ next ∷ output ∷ []) = Some (StepRow input present next output)
step_shape input (present ∷ next ∷ output ∷ word ∷ words) = None

-- of a line that begins with this word, which tells this, and goes on with these words
abbrev pub kiss_shape_by : KissDirective → Name → List Name → Option KissForm
kiss_shape_by directives.Inputs first words = width_shape InputsWidth words
kiss_shape_by directives.Outputs first words = width_shape OutputsWidth words
kiss_shape_by directives.Count first words = word_shape (λ word. CountLine) words
kiss_shape_by directives.Reset first words = word_shape ResetState words
kiss_shape_by directives.InputNames first words = Some (InputNames words)
kiss_shape_by directives.OutputNames first words = Some (OutputNames words)
kiss_shape_by directives.End first words = last_shape words
kiss_shape_by directives.Unknown first words = None
kiss_shape_by directives.Row first words = step_shape first words

abbrev pub kiss_shape_of : List Name → Option KissForm
kiss_shape_of [] = None
kiss_shape_of (first ∷ words) = kiss_shape_by (kiss_directive_of first) first words

-- what a logical line says, where it has the shape of its directive
abbrev pub kiss_said_by : LogicalLine → Option KissForm
kiss_said_by line = kiss_shape_of (words_of line)
