-- The lines of the second pass.
use Rattle.std.proofs.Common.{◌≡◌, ◌&&◌, ℕ, true, List, ◌∷◌, Option, Some, None, refl, sym, ◌∙◌, ap}
use Rattle.std.specs.List.{cons_option}
use Rattle.net_model.specs.Words.{Scope}
use Rattle.lex_core.specs.LogicalLines.{LogicalLine}
use Rattle.net_model.specs.declared.text_fault.TextFault.{TextFault}
use Rattle.net_model.specs.declared.text_fault.TextKind.{TextKind}
use Rattle.net_model.specs.Forms.{Form, said_by}
use Rattle.net_model.specs.NetTexts.{rows_stand}
use Rattle.net_model.specs.Faults.{fault_or}
use Rattle.blifmv_tables.specs.Drafts.{Draft, draft_from, open_of}
use Rattle.blifmv_tables.specs.RowFaults.{fault_at, kind_said, open_said, first_fault}
use Rattle.blifmv_tables.specs.Saying.{draft_by, stands_by}
use Rattle.blifmv_tables.proofs.Drafted.{open_drafted}

pub draft_passed : (vars : Scope) (draft : Draft) (said : Option Form) (text : List Form) → draft_from vars draft (cons_option said text) ≡ draft_from vars (draft_by vars draft said) text
draft_passed vars draft None text = refl
draft_passed vars draft (Some form) text = refl

pub rows_passed : (vars : Scope) (draft : Draft) (said : Option Form) (text : List Form) → stands_by vars draft said ≡ true → rows_stand vars (open_of draft.standing) (cons_option said text) ≡ rows_stand vars (open_of (draft_by vars draft said).standing) text
rows_passed vars draft None text stands = refl
rows_passed vars draft (Some form) text stands = λ i. (stands i) && rows_stand vars (sym (open_drafted vars draft form) i) text

later_fault : (kind : Option TextKind) (line number : ℕ) (later : Option TextFault) → fault_at line kind ≡ None → fault_or kind number later ≡ later
later_fault None line number later h = refl
later_fault (Some kind) line number later h = cc

open_passed : (vars : Scope) (draft : Draft) (said : Option Form) → open_said vars (open_of draft.standing) said ≡ open_of (draft_by vars draft said).standing
open_passed vars draft None = refl
open_passed vars draft (Some form) = sym (open_drafted vars draft form)

-- behind a line without a fault
pub fault_passed : (vars : Scope) (draft : Draft) (said : Option Form) (number : ℕ) (line : LogicalLine) (lines : List LogicalLine) → said_by line ≡ said → fault_at number (kind_said vars (open_of draft.standing) said) ≡ None → first_fault vars (open_of draft.standing) (line ∷ lines) ≡ first_fault vars (open_of (draft_by vars draft said).standing) lines
fault_passed vars draft said number line lines is none =
    ap (λ s. fault_or (kind_said vars (open_of draft.standing) s) line.number (first_fault vars (open_said vars (open_of draft.standing) s) lines)) is
    ∙ (later_fault (kind_said vars (open_of draft.standing) said) number line.number (first_fault vars (open_said vars (open_of draft.standing) said) lines) none
    ∙ ap (λ table. first_fault vars table lines) (open_passed vars draft said))
