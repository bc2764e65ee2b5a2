use Rattle.std.specs.Prelude.{◌==◌, ℕ, Bool, false, not, ◌&&◌, List, [], ◌∷◌, length, Option, Some, None, if◌then◌else◌}
use Rattle.lex_core.specs.LogicalLines.{LogicalLine}
use Rattle.name_table.specs.Variables.{is_in}
use Rattle.net_model.specs.declared.text_fault.TextFault.{TextFault}
use Rattle.net_model.specs.declared.text_fault.TextFault.TheVariants.{At}
use Rattle.net_model.specs.declared.text_fault.TextKind.{TextKind}
use Rattle.net_model.specs.declared.text_fault.TextKind.TheVariants as kinds
use Rattle.net_model.specs.Faults.{fault_or}
use Rattle.net_model.specs.Forms.{Name}
use Rattle.net_model.specs.KissForms.{KissForm, ResetState, kiss_said_by}
use Rattle.net_model.specs.KissTexts.{is_step}

-- The second pass by the states of the text, and whether two of its columns have one name. Where they have, the first row
-- has the fault, and no line below it counts.

abbrev pub resets_unknown_at : List Name → KissForm → Bool
resets_unknown_at states (ResetState name) = not (is_in states name)
resets_unknown_at states _ = false

abbrev pub kind_of_form : Bool → List Name → KissForm → Option TextKind
kind_of_form repeats states form =
    if is_step form && repeats then Some kinds.DrivenTwice
    else (if resets_unknown_at states form then Some kinds.UnknownReset else None)

abbrev pub kind_of_said : Bool → List Name → Option KissForm → Option TextKind
kind_of_said repeats states None = None
kind_of_said repeats states (Some form) = kind_of_form repeats states form

-- the first fault of these lines, below the line of the number `last`
abbrev pub rows_fault : Bool → List Name → ℕ → List LogicalLine → Option TextFault
rows_fault repeats states last [] = if length states == 0 then Some (At last kinds.NoRows) else None
rows_fault repeats states last (line ∷ lines) =
    fault_or (kind_of_said repeats states (kiss_said_by line)) line.number (rows_fault repeats states line.number lines)
