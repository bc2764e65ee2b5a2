use Rattle.std.specs.Prelude.{ℕ, ◌+◌, ◌-◌, ◌*◌, ◌==◌, Bool, true, false, not, ◌&&◌, ◌||◌, nat_lt, nat_le, List, [], ◌∷◌, ◌++◌, length, take, drop, map, Option, Some, None, if◌then◌else◌, codes, slice_index}
use Rattle.std.specs.Str.{bytes_eq}
use Rattle.std.specs.List.{list_any, list_all, flat_map}
use Rattle.lex_core.specs.LogicalLines.{LogicalLine}
use Rattle.net_model.specs.declared.directive.Directive.{Directive}
use Rattle.net_model.specs.declared.directive.Directive.TheVariants as directives

-- The lines of a network's text: what each says, by its words alone.

-- a word as it is written
abbrev pub Name : Type 0
Name = List ℕ

-- what a line says that has the form of its directive
pub data Form : Type 0 where
  -- the name of the model, where it has one
  ModelLine : List Name → Form
  InputsLine : List Name → Form
  OutputsLine : List Name → Form
  -- the names, how many values they have, and the names of the values, where they are given
  DomainsLine : List Name → Name → List Name → Form
  -- the inputs and the outputs of a table, of a reset table
  TableLine : List Name → List Name → Form
  ResetLine : List Name → List Name → Form
  -- the input and the output
  LatchLine : Name → Name → Form
  DefaultLine : List Name → Form
  EndLine : Form
  RowLine : List Name → Form

-- words that are signs of their own

abbrev pub is_comma : Name → Bool
is_comma word = bytes_eq word (codes ",")

abbrev pub is_opening : Name → Bool
is_opening word = bytes_eq word (codes "(")

abbrev pub is_closing : Name → Bool
is_closing word = bytes_eq word (codes ")")

abbrev pub is_arrow : Name → Bool
is_arrow word = bytes_eq word (codes "->")

abbrev pub is_mark : Name → Bool
is_mark word = is_comma word || (is_opening word || (is_closing word || is_arrow word))

-- the first byte is this one
abbrev pub begins_with : ℕ → Name → Bool
begins_with b [] = false
begins_with b (first ∷ bytes) = first == b

-- the first two bytes are `->`
abbrev pub begins_with_arrow : Name → Bool
begins_with_arrow word = bytes_eq (take 2 word) (codes "->")

-- the last byte is a backslash
abbrev pub ends_with_backslash : Name → Bool
ends_with_backslash word = slice_index word (length word - 1) == 92

-- a word that can be a name
abbrev pub is_name : Name → Bool
is_name word =
    not (is_comma word) && (not (is_opening word) && (not (is_closing word)
    && (not (begins_with_arrow word) && not (ends_with_backslash word))))

-- a word that can be the name of a value
abbrev pub is_value_name : Name → Bool
is_value_name word =
    is_name word && (not (bytes_eq word (codes "-"))
    && (not (begins_with 46 word) && (not (begins_with 33 word) && not (begins_with 61 word))))

-- numbers

abbrev pub is_digit : ℕ → Bool
is_digit b = nat_le 48 b && nat_le b 57

-- decimal digits alone, at least one
abbrev pub is_number : Name → Bool
is_number word = nat_lt 0 (length word) && list_all is_digit word

-- the number that decimal digits spell, behind others that spell n
abbrev pub number_from : ℕ → List ℕ → ℕ
number_from n [] = n
number_from n (digit ∷ digits) = number_from (10 * n + (digit - 48)) digits

abbrev pub number_of : Name → ℕ
number_of word = number_from 0 word

-- what the first word of a line tells

abbrev pub directive_of : Name → Directive
directive_of word =
    if bytes_eq word (codes ".model") then directives.Model
    else (if bytes_eq word (codes ".inputs") then directives.Inputs
    else (if bytes_eq word (codes ".outputs") then directives.Outputs
    else (if bytes_eq word (codes ".mv") then directives.Domains
    else (if bytes_eq word (codes ".table") || bytes_eq word (codes ".names") then directives.Table
    else (if bytes_eq word (codes ".reset") || bytes_eq word (codes ".r") then directives.Reset
    else (if bytes_eq word (codes ".latch") then directives.Latch
    else (if bytes_eq word (codes ".default") || bytes_eq word (codes ".def") then directives.Default
    else (if bytes_eq word (codes ".subckt") then directives.Instance
    else (if bytes_eq word (codes ".end") then directives.End
    else (if begins_with 46 word then directives.Unknown else directives.Row))))))))))

-- in the line of a table an arrow may stand together with the next word: the arrow, and then the rest
abbrev pub parted : Name → List Name
parted word = if begins_with_arrow word && nat_lt 2 (length word) then codes "->" ∷ drop 2 word ∷ [] else word ∷ []

abbrev pub parts_arrows : Directive → Bool
parts_arrows directives.Table = true
parts_arrows directives.Reset = true
parts_arrows _ = false

-- the words of a line, with the arrows of a table's line apart
abbrev pub apart : List Name → List Name
apart [] = []
apart (first ∷ words) = first ∷ (if parts_arrows (directive_of first) then flat_map parted words else words)

-- the shape of a line: which words stand where; whether names are spelled well is another matter

-- no word is a sign of its own
abbrev pub unmarked : List Name → Form → Option Form
unmarked words form = if list_any is_mark words then None else Some form

-- at most one word
abbrev pub model_shape : List Name → Option Form
model_shape [] = Some (ModelLine [])
model_shape (name ∷ []) = unmarked (name ∷ []) (ModelLine (name ∷ []))
model_shape (name ∷ word ∷ words) = None

abbrev pub latch_shape : List Name → Option Form
latch_shape [] = None
latch_shape (input ∷ []) = None
latch_shape (input ∷ output ∷ []) = unmarked (input ∷ output ∷ []) (LatchLine input output)
latch_shape (input ∷ output ∷ word ∷ words) = None

abbrev pub end_shape : List Name → Option Form
end_shape [] = Some EndLine
end_shape (word ∷ words) = None

-- a count from 1 up, and then no value names or just as many
abbrev pub has_count : Name → List Name → Bool
has_count count values =
    is_number count && (nat_lt 0 (number_of count) && ((length values == 0) || (length values == number_of count)))

abbrev pub values_shape : List Name → Name → List Name → Option Form
values_shape names count values =
    if has_count count values then unmarked values (DomainsLine names count values) else None

-- behind these names: one more name, and then a comma and further names, or a count and value names
abbrev pub domains_shape : List Name → List Name → Option Form
domains_shape names [] = None
domains_shape names (name ∷ []) = None
domains_shape names (name ∷ word ∷ words) =
    if is_mark name then None
    else (if is_comma word then domains_shape (names ++ name ∷ []) words
    else values_shape (names ++ name ∷ []) word words)

-- the words before the first arrow, and those behind it, where there is one
abbrev pub before_arrow : List Name → List Name
before_arrow [] = []
before_arrow (word ∷ words) = if is_arrow word then [] else word ∷ before_arrow words

abbrev pub behind_arrow : List Name → Option (List Name)
behind_arrow [] = None
behind_arrow (word ∷ words) = if is_arrow word then Some words else behind_arrow words

-- inputs, and one output at least
abbrev pub columns_shape : (List Name → List Name → Form) → List Name → List Name → Option Form
columns_shape line ins [] = None
columns_shape line ins (out ∷ outs) = unmarked (ins ++ out ∷ outs) (line ins (out ∷ outs))

-- without an arrow the last word is the only output
abbrev pub table_shape : (List Name → List Name → Form) → List Name → Option (List Name) → Option Form
table_shape line words None = columns_shape line (take (length words - 1) words) (drop (length words - 1) words)
table_shape line words (Some outs) = columns_shape line (before_arrow words) outs

-- of a line that begins with this word, which tells this, and goes on with these words
abbrev pub shape_by : Directive → Name → List Name → Option Form
shape_by directives.Model first words = model_shape words
shape_by directives.Inputs first words = unmarked words (InputsLine words)
shape_by directives.Outputs first words = unmarked words (OutputsLine words)
shape_by directives.Domains first words = domains_shape [] words
shape_by directives.Table first words = table_shape TableLine words (behind_arrow words)
shape_by directives.Reset first words = table_shape ResetLine words (behind_arrow words)
shape_by directives.Latch first words = latch_shape words
shape_by directives.Default first words = Some (DefaultLine words)
shape_by directives.Instance first words = None
shape_by directives.End first words = end_shape words
shape_by directives.Unknown first words = None
shape_by directives.Row first words = Some (RowLine (first ∷ words))

abbrev pub shape_of : List Name → Option Form
shape_of [] = None
shape_of (first ∷ words) = shape_by (directive_of first) first words

-- each word at the place of a name or of a value's name can be one
abbrev pub has_names : Form → Bool
has_names (ModelLine names) = list_all is_name names
has_names (InputsLine names) = list_all is_name names
has_names (OutputsLine names) = list_all is_name names
has_names (DomainsLine names count values) = list_all is_name names && list_all is_value_name values
has_names (TableLine ins outs) = list_all is_name ins && list_all is_name outs
has_names (ResetLine ins outs) = list_all is_name ins && list_all is_name outs
has_names (LatchLine input output) = is_name input && is_name output
has_names (DefaultLine words) = true
has_names EndLine = true
has_names (RowLine words) = true

-- the words of a logical line
abbrev pub words_of : LogicalLine → List Name
words_of line = map (λ word. word.bytes) line.words

-- what a logical line says, where it has the shape of its directive
abbrev pub said_by : LogicalLine → Option Form
said_by line = shape_of (apart (words_of line))
