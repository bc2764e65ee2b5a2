use Rattle.std.specs.Prelude.{◌||◌, ◌&&◌, ℕ, Bool, true, false, not, List, [], ◌∷◌, Option, Some, None, if◌then◌else◌, is_some, is_none}
use Rattle.std.specs.Option.{option_map}
use Rattle.lex_core.specs.LogicalLines.{LogicalLine, logical_lines}
use Rattle.net_model.specs.declared.text_fault.TextFault.{TextFault}
use Rattle.net_model.specs.declared.text_fault.TextFault.TheVariants.{At}
use Rattle.net_model.specs.declared.text_fault.TextKind.{TextKind}
use Rattle.net_model.specs.declared.text_fault.TextKind.TheVariants.{UnknownValue, RowWidth, EqDomain, TwiceDefault}
use Rattle.net_model.specs.Words.{Scope}
use Rattle.net_model.specs.Forms.{Name, Form, RowLine, DefaultLine, LatchLine, said_by}
use Rattle.net_model.specs.Spellings.{Spelled, Same, Taken, domain_at, entry_at, input_entry, row_spelled, default_spelled}
use Rattle.net_model.specs.NetTexts.{OpenTable, open_behind}
use Rattle.net_model.specs.Faults.{fault_or}
use Rattle.blifmv_tables.specs.Drafts.{latch_fits}

-- Which fault of the second pass a line has. The first pass has tested that rows stand under tables, with as many entries as
-- columns, and defaults once; of a row without a table, or a second default, the fault of that pass is told here too.

abbrev pub is_equality : Spelled → Bool
is_equality (Same name) = true
is_equality _ = false

-- an entry that names no value of its column; an entry with `=` names none, and may stand at an output
abbrev pub is_unknown : Scope → Bool → ℕ → Spelled → Bool
is_unknown vars at_output column spelled =
    not (at_output && is_equality spelled) && is_none (input_entry (domain_at vars column) spelled)

-- one of the entries is so that the words spell for these columns
abbrev pub some_with : (Spelled → Bool) → (List Name → Bool) → Option (Taken Spelled) → Bool
some_with test more None = false
some_with test more (Some had) = test had.taken || more had.rest

abbrev pub some_entry : (ℕ → Spelled → Bool) → List ℕ → List Name → Bool
some_entry test [] words = false
some_entry test (column ∷ columns) words = some_with (test column) (some_entry test columns) (entry_at words)

-- the words behind the entries of these columns, as far as they spell them
abbrev pub rest_with : (List Name → List Name) → List Name → Option (Taken Spelled) → List Name
rest_with more words None = words
rest_with more words (Some had) = more had.rest

abbrev pub behind_entries : List ℕ → List Name → List Name
behind_entries [] words = words
behind_entries (column ∷ columns) words = rest_with (behind_entries columns) words (entry_at words)

-- the fault of a default that spells no entries of its columns, though as many, and of a row
abbrev pub kind_of_outputs : Scope → List ℕ → List Name → TextKind
kind_of_outputs vars outs words = if some_entry (is_unknown vars true) outs words then UnknownValue else EqDomain

abbrev pub kind_of_row : Scope → List ℕ → List ℕ → List Name → TextKind
kind_of_row vars ins outs words =
    if some_entry (is_unknown vars false) ins words then UnknownValue
    else kind_of_outputs vars outs (behind_entries ins words)

abbrev pub kind_unless : Bool → TextKind → Option TextKind
kind_unless stands kind = if stands then None else Some kind

abbrev pub row_kind : Scope → Option OpenTable → List Name → Option TextKind
row_kind vars None words = Some RowWidth
row_kind vars (Some table) words =
    kind_unless (is_some (row_spelled vars table.ins table.outs words)) (kind_of_row vars table.ins table.outs words)

abbrev pub default_kind : Scope → Option OpenTable → List Name → Option TextKind
default_kind vars None words = Some RowWidth
default_kind vars (Some table) words =
    if table.has_default then Some TwiceDefault
    else kind_unless (is_some (default_spelled vars table.ins table.outs words)) (kind_of_outputs vars table.outs words)

abbrev pub line_kind : Scope → Option OpenTable → Form → Option TextKind
line_kind vars table (RowLine words) = row_kind vars table words
line_kind vars table (DefaultLine words) = default_kind vars table words
line_kind vars table (LatchLine input output) = kind_unless (latch_fits vars (LatchLine input output)) EqDomain
line_kind vars table _ = None

abbrev pub fault_at : ℕ → Option TextKind → Option TextFault
fault_at line kind = option_map (At line) kind

-- a line without the form of its directive says nothing
abbrev pub kind_said : Scope → Option OpenTable → Option Form → Option TextKind
kind_said vars table None = None
kind_said vars table (Some form) = line_kind vars table form

abbrev pub open_said : Scope → Option OpenTable → Option Form → Option OpenTable
open_said vars table None = table
open_said vars table (Some form) = open_behind vars table form

-- the first fault of these lines
abbrev pub first_fault : Scope → Option OpenTable → List LogicalLine → Option TextFault
first_fault vars table [] = None
first_fault vars table (line ∷ lines) =
    fault_or (kind_said vars table (said_by line)) line.number (first_fault vars (open_said vars table (said_by line)) lines)

abbrev pub row_fault : Scope → List ℕ → Option TextFault
row_fault vars bytes = first_fault vars None (logical_lines bytes)
