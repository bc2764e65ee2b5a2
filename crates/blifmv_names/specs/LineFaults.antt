use Rattle.std.specs.Prelude.{◌≡◌, ◌<◌, ◌≤◌, ℕ, ◌+◌, Bool, true, false, not, ◌&&◌, ◌||◌, nat_lt, List, [], ◌∷◌, length, Option, Some, None, if◌then◌else◌}
use Rattle.std.specs.List.{list_any}
use Rattle.lex_core.specs.LogicalLines.{LogicalLine, logical_lines}
use Rattle.name_table.specs.Variables.{are_different}
use Rattle.net_model.specs.declared.directive.Directive.{Directive}
use Rattle.net_model.specs.declared.directive.Directive.TheVariants as directives
use Rattle.net_model.specs.declared.text_fault.TextFault.{TextFault}
use Rattle.net_model.specs.declared.text_fault.TextFault.TheVariants.{At}
use Rattle.net_model.specs.declared.text_fault.TextKind.{TextKind}
use Rattle.net_model.specs.declared.text_fault.TextKind.TheVariants.{UnknownDirective, BadCount, RowWidth, NoModel, TwiceDefault, Limit, Hierarchy, BadName, BadDomain}
use Rattle.net_model.specs.declared.text_fault.Which.{Which}
use Rattle.net_model.specs.declared.text_fault.Which.TheVariants.{Signals, Values, Columns, Rows}
use Rattle.net_model.specs.Forms.{Name, Form, DomainsLine, TableLine, ResetLine, DefaultLine, RowLine, directive_of, number_of, has_count, shape_of, apart, words_of, has_names}
use Rattle.net_model.specs.Spellings.{spells}
use Rattle.net_model.specs.NetTexts.{is_model, is_end, domain_given}
pub use Rattle.net_model.specs.NetTexts.{is_model_word, begins_model_words}
use Rattle.net_model.specs.Faults.{fault_or}
use Rattle.blifmv_names.specs.declared.line_fault.LineFault.{LineFault}
use Rattle.blifmv_names.specs.declared.line_fault.LineFault.TheVariants.{Kind, Memory}
use Rattle.blifmv_names.specs.declared.place.Place.{Place}
use Rattle.blifmv_names.specs.declared.place.Width.{Width}
use Rattle.blifmv_names.specs.Signals.{Signal, given_in, gives, with_mentions, signals_behind, agrees}

-- Which fault of the first pass a line has, by its words and what stands above it. Of several faults of one line the one
-- that is tested first counts.

-- what the first word tells
abbrev pub is_end_word : Directive → Bool
is_end_word directives.End = true
is_end_word _ = false

abbrev pub is_unknown_word : Directive → Bool
is_unknown_word directives.Unknown = true
is_unknown_word _ = false

abbrev pub is_instance_word : Directive → Bool
is_instance_word directives.Instance = true
is_instance_word _ = false

-- a directive that the format doesn't have; behind the end any line but that of a model; words behind `.end` itself
abbrev pub is_unknown : Place → Directive → List Name → Bool
is_unknown place directive words =
    is_unknown_word directive
    || ((place.ended && not (is_model_word directive)) || (is_end_word directive && nat_lt 1 (length words)))

-- a row or default without an open table, or that spells another number of entries than the table has columns
abbrev pub is_misfit : Option Width → Form → Bool
is_misfit None (RowLine words) = true
is_misfit (Some width) (RowLine words) = not (spells width.columns words)
is_misfit None (DefaultLine words) = true
is_misfit (Some width) (DefaultLine words) = not (spells width.outs words)
is_misfit width _ = false

abbrev pub is_second_default : Option Width → Form → Bool
is_second_default (Some width) (DefaultLine words) = width.has_default
is_second_default _ _ = false

-- which count passes its limit at a line, with the signals up to it

abbrev pub has_many_values : Form → Bool
has_many_values (DomainsLine names count values) = nat_lt 65536 (number_of count)
has_many_values _ = false

abbrev pub has_many_columns : Form → Bool
has_many_columns (TableLine ins outs) = nat_lt 256 (length ins + length outs)
has_many_columns (ResetLine ins outs) = nat_lt 256 (length ins + length outs)
has_many_columns _ = false

-- how many rows a line is
abbrev pub rows_on : Form → ℕ
rows_on (RowLine words) = 1
rows_on (DefaultLine words) = 1
rows_on _ = 0

abbrev pub limit_of_line : ℕ → Form → Option Which
limit_of_line rows form =
    if has_many_values form then Some Values
    else (if has_many_columns form then Some Columns
    else (if nat_lt 1000000 (rows + rows_on form) then Some Rows else None))

abbrev pub limit_on : Place → List Signal → Form → Option Which
limit_on place signals form = if nat_lt 4096 (length signals) then Some Signals else limit_of_line place.rows form

-- a domain with a repeated value name, or another one than a name has
abbrev pub is_clashing : List Signal → Form → Bool
is_clashing signals (DomainsLine names count values) =
    not (are_different values) || list_any (λ name. not (agrees (domain_given count values) (given_in signals name))) names
is_clashing signals _ = false

abbrev pub kind_of_names : Place → List Signal → Form → Option TextKind
kind_of_names place signals form =
    if is_model form && place.begun then Some Hierarchy
    else (if not (has_names form) then Some BadName
    else (if is_clashing signals form then Some BadDomain else None))

abbrev pub limit_or : Option Which → Option TextKind → Option TextKind
limit_or None kind = kind
limit_or (Some which) kind = Some (Limit which)

-- of a line that says this, where the signals are those up to it
abbrev pub kind_of_form : Place → List Signal → Form → Option TextKind
kind_of_form place signals form =
    if is_misfit place.width form then Some RowWidth
    else (if is_second_default place.width form then Some TwiceDefault
    else limit_or (limit_on place signals form) (kind_of_names place signals form))

abbrev pub kind_of_shape : Place → List Signal → Directive → Option Form → Option TextKind
kind_of_shape place signals directive None = if is_instance_word directive then Some Hierarchy else Some BadCount
kind_of_shape place signals directive (Some form) = kind_of_form place (with_mentions signals form) form

abbrev pub kind_of_words : Place → List Signal → List Name → Option TextKind
kind_of_words place signals [] = Some BadCount
kind_of_words place signals (first ∷ words) =
    if is_unknown place (directive_of first) (first ∷ words) then Some UnknownDirective
    else kind_of_shape place signals (directive_of first) (shape_of (first ∷ words))

-- what stands above the next line

abbrev pub width_of : List Name → List Name → Option Width
width_of ins outs = Some (record { columns = length ins + length outs; outs = length outs; has_default = false })

abbrev pub with_default : Option Width → Option Width
with_default None = None
with_default (Some width) = Some (record width { has_default = true })

abbrev pub width_behind : Option Width → Form → Option Width
width_behind width (TableLine ins outs) = width_of ins outs
width_behind width (ResetLine ins outs) = width_of ins outs
width_behind width (RowLine words) = width
width_behind width (DefaultLine words) = with_default width
width_behind width _ = None

abbrev pub place_behind : Place → Form → Place
place_behind place form = record {
  begun = place.begun || is_model form;
  ended = place.ended || is_end form;
  width = width_behind place.width form;
  rows = place.rows + rows_on form;
}

-- the first fault of these lines

abbrev pub fault_behind : (Place → List Signal → Option TextFault) → Place → List Signal → Option Form → Option TextFault
fault_behind more place signals None = None
fault_behind more place signals (Some form) = more (place_behind place form) (signals_behind signals form)

abbrev pub first_fault : Place → List Signal → List LogicalLine → Option TextFault
first_fault place signals [] = None
first_fault place signals (line ∷ lines) =
    let words = apart (words_of line) in
    fault_or (kind_of_words place signals words) line.number
    (fault_behind (λ place' signals'. first_fault place' signals' lines) place signals (shape_of words))

abbrev pub nothing_above : Place
nothing_above = record { begun = false; ended = false; width = None; rows = 0 }

-- a text of networks begins with the word `.model`; else it has a fault where its first word stands, or in line 1
abbrev pub first_line : List LogicalLine → ℕ
first_line [] = 1
first_line (line ∷ lines) = line.number

abbrev pub begins_model : List LogicalLine → Bool
begins_model [] = false
begins_model (line ∷ lines) = begins_model_words (words_of line)

-- the fault that is told of the lines of a text, before its rows and signals are looked at
abbrev pub fault_of_lines : List LogicalLine → Option TextFault
fault_of_lines lines =
    if begins_model lines then first_fault nothing_above [] lines else Some (At (first_line lines) NoModel)

abbrev pub line_fault : List ℕ → Option TextFault
line_fault bytes = fault_of_lines (logical_lines bytes)

-- what a line without a fault leads to: where the next one stands, and the signals up to there
pub record IsTaken (place : Place) (old new : List Signal) (words : List Name) (next : Place) : Type 0 where
  pub form : Form
  pub shape : shape_of words ≡ Some form
  pub faultless : kind_of_words place old words ≡ None
  pub place_is : next ≡ place_behind place form
  pub signals_are : new ≡ signals_behind old form

pub record IsFormTaken (place : Place) (old new : List Signal) (form : Form) (next : Place) : Type 0 where
  pub faultless : kind_of_form place (with_mentions old form) form ≡ None
  pub place_is : next ≡ place_behind place form
  pub signals_are : new ≡ signals_behind old form

-- a fault that a line has; want of memory is free
abbrev pub IsKind : Option TextKind → LineFault → Type 0
IsKind kind (Kind k) = kind ≡ Some k
IsKind kind Memory = Unit {0}

-- the signals are now those, where they are few enough; else those are too many
abbrev pub MentionsAre : List Signal → List Signal → Bool → Type 0
MentionsAre wanted signals true = (signals ≡ wanted) × (length wanted ≤ 4096)
MentionsAre wanted signals false = 4096 < length wanted

-- a domain with as many values as its line says, and not too many
abbrev pub HasCount : Form → Type 0
HasCount (DomainsLine names count values) = (has_count count values ≡ true) × (number_of count ≤ 65536)
HasCount _ = Unit {0}

-- the line clashes, or its domain is given to its signals
abbrev pub IsGiven : List Signal → List Signal → Form → Bool → Type 0
IsGiven old new form true = (is_clashing old form ≡ false) × (new ≡ gives form old)
IsGiven old new form false = is_clashing old form ≡ true

-- the domain that these words give, whose values differ; none where one stands twice
abbrev pub IsDomainOf : Name → List Name → Option (List Name) → Type 0
IsDomainOf count values None = are_different values ≡ false
IsDomainOf count values (Some domain) =
    (are_different values ≡ true) × (domain ≡ domain_given count values) × (length domain ≤ 65536)

-- the values as a domain; none where one stands twice
abbrev pub IsListOf : List Name → Option (List Name) → Type 0
IsListOf values None = are_different values ≡ false
IsListOf values (Some domain) = (are_different values ≡ true) × (domain ≡ values)

-- a domain with as many values as its line says
abbrev pub IsCounted : Form → Type 0
IsCounted (DomainsLine names count values) = has_count count values ≡ true
IsCounted _ = Unit {0}

-- the kinds of faults of rows
abbrev pub kind_of_rows : Option Width → Form → Option TextKind
kind_of_rows width form =
    if is_misfit width form then Some RowWidth else (if is_second_default width form then Some TwiceDefault else None)

-- those of names that are told without the signals
abbrev pub kind_of_spelling : Place → Form → Option TextKind
kind_of_spelling place form =
    if is_model form && place.begun then Some Hierarchy else (if not (has_names form) then Some BadName else None)
