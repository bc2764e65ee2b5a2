-- Lines without a fault of the second pass.
use Rattle.std.proofs.Common.{◌≡◌, ◌↔◌, ◌&&◌, ℕ, Bool, true, false, not, List, [], ◌∷◌, Option, Some, None, is_some, if◌then◌else◌, refl, ◌∙◌, ap}
use Rattle.std.specs.List.{filter_map, cons_option}
use Rattle.std.proofs.lemmas.Bool.{and_parts, false≢true}
use Rattle.lex_core.specs.LogicalLines.{LogicalLine, logical_lines}
use Rattle.net_model.specs.declared.text_fault.TextFault.{TextFault}
use Rattle.net_model.specs.declared.text_fault.TextKind.{TextKind}
use Rattle.net_model.specs.declared.text_fault.TextKind.TheVariants.{TwiceDefault, EqDomain}
use Rattle.net_model.specs.Words.{Scope}
use Rattle.net_model.specs.Forms.{Name, Form, ModelLine, InputsLine, OutputsLine, DomainsLine, TableLine, ResetLine, LatchLine, DefaultLine, EndLine, RowLine, said_by}
use Rattle.net_model.specs.Spellings.{row_spelled, default_spelled}
use Rattle.net_model.specs.NetTexts.{OpenTable, line_stands, rows_stand, text_in}
use Rattle.net_model.specs.Faults.{fault_or}
use Rattle.blifmv_tables.specs.Drafts.{latch_fits, latches_fit}
use Rattle.blifmv_tables.specs.RowFaults.{kind_unless, kind_of_row, kind_of_outputs, row_kind, default_kind, line_kind, kind_said, open_said, first_fault, row_fault}

-- the tests of a line: it stands where it is a row or default, and fits where it is a latch
record Passes (vars : Scope) (table : Option OpenTable) (form : Form) : Type 0 where
  stands : line_stands vars table form ≡ true
  fits : latch_fits vars form ≡ true

unless_none : (b : Bool) (kind : TextKind) → kind_unless b kind ≡ None → b ≡ true
unless_none true kind h = refl
unless_none false kind h = cc

unless_some : (b : Bool) (kind : TextKind) → b ≡ true → kind_unless b kind ≡ None
unless_some true kind h = refl
unless_some false kind h = absurd (false≢true h)

default_none : (had stands : Bool) (kind : TextKind) → (if had then Some TwiceDefault else kind_unless stands kind) ≡ None → (not had && stands) ≡ true
default_none true stands kind h = cc
default_none false stands kind h = unless_none stands kind h

default_some : (had stands : Bool) (kind : TextKind) → (not had && stands) ≡ true → (if had then Some TwiceDefault else kind_unless stands kind) ≡ None
default_some true stands kind h = absurd (false≢true h)
default_some false stands kind h = unless_some stands kind h

row_passes : (vars : Scope) (table : Option OpenTable) (words : List Name) → row_kind vars table words ≡ None → line_stands vars table (RowLine words) ≡ true
row_passes vars None words h = cc
row_passes vars (Some table) words h = unless_none (is_some (row_spelled vars table.ins table.outs words)) (kind_of_row vars table.ins table.outs words) h

default_passes : (vars : Scope) (table : Option OpenTable) (words : List Name) → default_kind vars table words ≡ None → line_stands vars table (DefaultLine words) ≡ true
default_passes vars None words h = cc
default_passes vars (Some table) words h =
    default_none table.has_default (is_some (default_spelled vars table.ins table.outs words)) (kind_of_outputs vars table.outs words) h

passes : (vars : Scope) (table : Option OpenTable) (form : Form) → line_kind vars table form ≡ None → Passes vars table form
passes vars table (ModelLine names) h = record { stands = refl; fits = refl }
passes vars table (InputsLine names) h = record { stands = refl; fits = refl }
passes vars table (OutputsLine names) h = record { stands = refl; fits = refl }
passes vars table (DomainsLine names count values) h = record { stands = refl; fits = refl }
passes vars table (TableLine ins outs) h = record { stands = refl; fits = refl }
passes vars table (ResetLine ins outs) h = record { stands = refl; fits = refl }
passes vars table (LatchLine input output) h = record { stands = refl; fits = unless_none (latch_fits vars (LatchLine input output)) EqDomain h }
passes vars table (DefaultLine words) h = record { stands = default_passes vars table words h; fits = refl }
passes vars table EndLine h = record { stands = refl; fits = refl }
passes vars table (RowLine words) h = record { stands = row_passes vars table words h; fits = refl }

row_faultless : (vars : Scope) (table : Option OpenTable) (words : List Name) → line_stands vars table (RowLine words) ≡ true → row_kind vars table words ≡ None
row_faultless vars None words h = absurd (false≢true h)
row_faultless vars (Some table) words h = unless_some (is_some (row_spelled vars table.ins table.outs words)) (kind_of_row vars table.ins table.outs words) h

default_faultless : (vars : Scope) (table : Option OpenTable) (words : List Name) → line_stands vars table (DefaultLine words) ≡ true → default_kind vars table words ≡ None
default_faultless vars None words h = absurd (false≢true h)
default_faultless vars (Some table) words h =
    default_some table.has_default (is_some (default_spelled vars table.ins table.outs words)) (kind_of_outputs vars table.outs words) h

faultless : (vars : Scope) (table : Option OpenTable) (form : Form) → line_stands vars table form ≡ true → latch_fits vars form ≡ true → line_kind vars table form ≡ None
faultless vars table (ModelLine names) h k = refl
faultless vars table (InputsLine names) h k = refl
faultless vars table (OutputsLine names) h k = refl
faultless vars table (DomainsLine names count values) h k = refl
faultless vars table (TableLine ins outs) h k = refl
faultless vars table (ResetLine ins outs) h k = refl
faultless vars table (LatchLine input output) h k = unless_some (latch_fits vars (LatchLine input output)) EqDomain k
faultless vars table (DefaultLine words) h k = default_faultless vars table words h
faultless vars table EndLine h k = refl
faultless vars table (RowLine words) h k = row_faultless vars table words h

-- all lines

no_fault : (kind : Option TextKind) (line : ℕ) (later : Option TextFault) → fault_or kind line later ≡ None → (kind ≡ None) × (later ≡ None)
no_fault None line later h = (refl, h)
no_fault (Some kind) line later h = cc

one_passes : (vars : Scope) (table : Option OpenTable) (said : Option Form) (text : List Form) → kind_said vars table said ≡ None → (rows_stand vars (open_said vars table said) text ≡ true) × (latches_fit vars text ≡ true) → (rows_stand vars table (cons_option said text) ≡ true) × (latches_fit vars (cons_option said text) ≡ true)
one_passes vars table None text h more = more
one_passes vars table (Some form) text h more =
    let here = passes vars table form h in
    (rw (here.stands, more.0) refl, rw (here.fits, more.1) refl)

all_pass : (vars : Scope) (table : Option OpenTable) (lines : List LogicalLine) → first_fault vars table lines ≡ None → (rows_stand vars table (filter_map said_by lines) ≡ true) × (latches_fit vars (filter_map said_by lines) ≡ true)
all_pass vars table [] h = (refl, refl)
all_pass vars table (line ∷ lines) h =
    let parts = no_fault (kind_said vars table (said_by line)) line.number (first_fault vars (open_said vars table (said_by line)) lines) h in
    one_passes vars table (said_by line) (filter_map said_by lines) parts.0 (all_pass vars (open_said vars table (said_by line)) lines parts.1)

one_faultless : (vars : Scope) (table : Option OpenTable) (said : Option Form) (text : List Form) → rows_stand vars table (cons_option said text) ≡ true → latches_fit vars (cons_option said text) ≡ true → (kind_said vars table said ≡ None) × ((rows_stand vars (open_said vars table said) text ≡ true) × (latches_fit vars text ≡ true))
one_faultless vars table None text h k = (refl, (h, k))
one_faultless vars table (Some form) text h k =
    let rows = and_parts (line_stands vars table form) _ h in
    let latches = and_parts (latch_fits vars form) _ k in
    (faultless vars table form rows.0 latches.0, (rows.1, latches.1))

all_faultless : (vars : Scope) (table : Option OpenTable) (lines : List LogicalLine) → rows_stand vars table (filter_map said_by lines) ≡ true → latches_fit vars (filter_map said_by lines) ≡ true → first_fault vars table lines ≡ None
all_faultless vars table [] h k = refl
all_faultless vars table (line ∷ lines) h k =
    let parts = one_faultless vars table (said_by line) (filter_map said_by lines) h k in
    ap (λ kind. fault_or kind line.number (first_fault vars (open_said vars table (said_by line)) lines)) parts.0
    ∙ all_faultless vars (open_said vars table (said_by line)) lines parts.1.0 parts.1.1

pub rows_faultless : (vars : Scope) (bytes : List ℕ) → (row_fault vars bytes ≡ None) ↔ ((rows_stand vars None (text_in bytes) ≡ true) × (latches_fit vars (text_in bytes) ≡ true))
rows_faultless vars bytes = (all_pass vars None (logical_lines bytes), λ h. all_faultless vars None (logical_lines bytes) h.0 h.1)
