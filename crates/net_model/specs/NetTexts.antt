use Rattle.std.specs.Prelude.{◌≡◌, ℕ, Bool, true, false, not, ◌&&◌, List, [], ◌∷◌, ◌++◌, map, Option, Some, None, if◌then◌else◌, is_some, unwrap_or}
use Rattle.std.specs.Option.{option_map}
use Rattle.std.specs.List.{list_all, flat_map, filter_map}
use Rattle.lex_core.specs.LogicalLines.{logical_lines}
use Rattle.name_table.specs.Variables.{names_of, is_in, place_of, are_different, are_same, with_name, numbers}
use Rattle.net_model.specs.Words.{Scope}
use Rattle.net_model.specs.Forms.{Name, Form, ModelLine, InputsLine, OutputsLine, DomainsLine, TableLine, ResetLine, LatchLine, DefaultLine, EndLine, RowLine, directive_of, number_of, has_names, said_by}
use Rattle.net_model.specs.Nets.{Entry, Row, Table, Latch, Net}
use Rattle.net_model.specs.declared.directive.Directive.{Directive}
use Rattle.net_model.specs.declared.directive.Directive.TheVariants as directives
use Rattle.net_model.specs.Spellings.{row_spelled, default_spelled}
use Rattle.net_model.specs.Conditions.{MeetsConditions}

-- The network that a text of one model stands for. The text is here the list of what its lines say.

-- names and domains

-- the names on a line of which each is a signal
abbrev pub mentions : Form → List Name
mentions (ModelLine names) = []
mentions (InputsLine names) = names
mentions (OutputsLine names) = names
mentions (DomainsLine names count values) = names
mentions (TableLine ins outs) = ins ++ outs
mentions (ResetLine ins outs) = ins ++ outs
mentions (LatchLine input output) = input ∷ output ∷ []
mentions (DefaultLine words) = []
mentions EndLine = []
mentions (RowLine words) = []

-- behind these names those of others that are new, each once, in the order of first appearance
abbrev pub distinct : List Name → List Name → List Name
distinct had [] = had
distinct had (name ∷ names) = distinct (with_name had name) names

-- the names of the text
abbrev pub names_in : List Form → List Name
names_in text = distinct [] (flat_map mentions text)

-- the domain that a line gives: of the values that it names, else of the numbers 0, 1 and so on
abbrev pub domain_given : Name → List Name → List Name
domain_given count [] = numbers (number_of count)
domain_given count (value ∷ values) = value ∷ values

-- the domain that the line gives this name, where it does
abbrev pub domain_on : Form → Name → Option (List Name)
domain_on (DomainsLine names count values) name = if is_in names name then Some (domain_given count values) else None
domain_on _ name = None

-- the domain of a name: the first that a line gives, else the values 0 and 1
abbrev pub domain_in : List Form → Name → List Name
domain_in [] name = numbers 2
domain_in (form ∷ text) name = unwrap_or (domain_on form name) (domain_in text name)

abbrev pub variables_in : List Form → Scope
variables_in text = map (λ name. record { name = name; values = domain_in text name }) (names_in text)

-- the line gives no domain with a repeated name, and none to a name that has another one
abbrev pub has_domains : (Name → List Name) → Form → Bool
has_domains domain (DomainsLine names count values) =
    are_different values && list_all (λ name. are_same (domain_given count values) (domain name)) names
has_domains domain _ = true

-- inputs, outputs and latches

abbrev pub place_in : Scope → Name → ℕ
place_in vars name = unwrap_or (place_of (names_of vars) name) 0

abbrev pub places_in : Scope → List Name → List ℕ
places_in vars names = map (place_in vars) names

abbrev pub inputs_on : Form → List Name
inputs_on (InputsLine names) = names
inputs_on _ = []

abbrev pub outputs_on : Form → List Name
outputs_on (OutputsLine names) = names
outputs_on _ = []

abbrev pub latches_on : Scope → Form → List Latch
latches_on vars (LatchLine input output) = record { input = place_in vars input; output = place_in vars output } ∷ []
latches_on vars _ = []

-- rows and tables

-- the table that stands open at a line, and whether it has had its default
pub record OpenTable : Type 0 where
  pub ins : List ℕ
  pub outs : List ℕ
  pub has_default : Bool

abbrev pub opened : Scope → List Name → List Name → Option OpenTable
opened vars ins outs = Some (record { ins = places_in vars ins; outs = places_in vars outs; has_default = false })

abbrev pub with_default : OpenTable → OpenTable
with_default table = record table { has_default = true }

-- which table stands open behind a line, by which one stood open before it
abbrev pub open_behind : Scope → Option OpenTable → Form → Option OpenTable
open_behind vars table (TableLine ins outs) = opened vars ins outs
open_behind vars table (ResetLine ins outs) = opened vars ins outs
open_behind vars table (RowLine words) = table
open_behind vars table (DefaultLine words) = option_map with_default table
open_behind vars table _ = None

-- a row spells an entry for each column of the table that stands open, and so does a default, of which a table has one
abbrev pub row_stands : Scope → Option OpenTable → List Name → Bool
row_stands vars None words = false
row_stands vars (Some table) words = is_some (row_spelled vars table.ins table.outs words)

abbrev pub default_stands : Scope → Option OpenTable → List Name → Bool
default_stands vars None words = false
default_stands vars (Some table) words = not table.has_default && is_some (default_spelled vars table.ins table.outs words)

abbrev pub line_stands : Scope → Option OpenTable → Form → Bool
line_stands vars table (RowLine words) = row_stands vars table words
line_stands vars table (DefaultLine words) = default_stands vars table words
line_stands vars table _ = true

abbrev pub rows_stand : Scope → Option OpenTable → List Form → Bool
rows_stand vars table [] = true
rows_stand vars table (form ∷ text) = line_stands vars table form && rows_stand vars (open_behind vars table form) text

-- the rows under the line of a table, up to the next directive that is no default
abbrev pub rows_under : List Form → List (List Name)
rows_under [] = []
rows_under (RowLine words ∷ text) = words ∷ rows_under text
rows_under (DefaultLine words ∷ text) = rows_under text
rows_under (_ ∷ text) = []

abbrev pub default_under : List Form → Option (List Name)
default_under [] = None
default_under (RowLine words ∷ text) = default_under text
default_under (DefaultLine words ∷ text) = Some words
default_under (_ ∷ text) = None

-- what a row and a default say, where they spell entries
abbrev pub row_said : Scope → List ℕ → List ℕ → List Name → Row
row_said vars ins outs words = unwrap_or (row_spelled vars ins outs words) (record { ins = []; outs = [] })

abbrev pub default_said : Scope → List ℕ → List ℕ → List Name → List Entry
default_said vars ins outs words = unwrap_or (default_spelled vars ins outs words) []

-- the table with these columns, and with what stands under its line
abbrev pub table_said : Scope → List ℕ → List ℕ → List Form → Table
table_said vars ins outs under = record {
  ins = ins;
  outs = outs;
  rows = map (row_said vars ins outs) (rows_under under);
  otherwise = option_map (default_said vars ins outs) (default_under under);
}

abbrev pub tables_on : Scope → Form → List Form → List Table
tables_on vars (TableLine ins outs) under = table_said vars (places_in vars ins) (places_in vars outs) under ∷ []
tables_on vars _ under = []

abbrev pub resets_on : Scope → Form → List Form → List Table
resets_on vars (ResetLine ins outs) under = table_said vars (places_in vars ins) (places_in vars outs) under ∷ []
resets_on vars _ under = []

-- each in the order of the lines
abbrev pub tables_in : Scope → List Form → List Table
tables_in vars [] = []
tables_in vars (form ∷ text) = tables_on vars form text ++ tables_in vars text

abbrev pub resets_in : Scope → List Form → List Table
resets_in vars [] = []
resets_in vars (form ∷ text) = resets_on vars form text ++ resets_in vars text

-- what the lines say together, where an output that is named again counts once
abbrev pub net_with : Scope → List Form → Net
net_with vars text = record {
  names = vars;
  inputs = places_in vars (flat_map inputs_on text);
  outputs = places_in vars (distinct [] (flat_map outputs_on text));
  tables = tables_in vars text;
  latches = flat_map (latches_on vars) text;
  resets = resets_in vars text;
}

abbrev pub net_said : List Form → Net
net_said text = net_with (variables_in text) text

-- the first word is the one that opens a model
abbrev pub is_model_word : Directive → Bool
is_model_word directives.Model = true
is_model_word _ = false

abbrev pub begins_model_words : List Name → Bool
begins_model_words [] = false
begins_model_words (first ∷ words) = is_model_word (directive_of first)

-- the line of a model opens the text, and stands nowhere else
abbrev pub is_model : Form → Bool
is_model (ModelLine names) = true
is_model _ = false

abbrev pub opens_model : List Form → Bool
opens_model [] = false
opens_model (form ∷ text) = is_model form && list_all (λ line. not (is_model line)) text

-- no line stands behind the end
abbrev pub is_end : Form → Bool
is_end EndLine = true
is_end _ = false

abbrev pub ends_once : List Form → Bool
ends_once [] = true
ends_once (form ∷ []) = true
ends_once (form ∷ next ∷ text) = not (is_end form) && ends_once (next ∷ text)

-- what the lines of the bytes say that have the form of their directive
abbrev pub text_in : List ℕ → List Form
text_in bytes = filter_map said_by (logical_lines bytes)

-- The lines of the bytes say this text: each has the form of its directive, and names are spelled well. The model is
-- opened once, nothing stands behind the end, and no name has two domains.
pub record LinesSay (bytes : List ℕ) (text : List Form) : Type 0 where
  pub lines : map said_by (logical_lines bytes) ≡ map Some text
  pub spelled : list_all has_names text ≡ true
  pub begins : opens_model text ≡ true
  pub ends : ends_once text ≡ true
  pub domains : list_all (has_domains (domain_in text)) text ≡ true

-- The bytes stand for the network: it is the one that their lines say, whose rows and defaults stand under tables and
-- spell entries of the columns.
pub record StandsForNet (bytes : List ℕ) (net : Net) : Type 0 where
  pub text : List Form
  pub lines : LinesSay bytes text
  pub rows : rows_stand (variables_in text) None text ≡ true
  pub says : net ≡ net_said text
  pub conditions : MeetsConditions net
