-- The second pass over a text of which each line says something.
use Rattle.std.proofs.Common.{◌≡◌, ◌<◌, ◌||◌, ◌&&◌, ◌++◌, ◌==◌, ℕ, Bool, true, false, not, List, [], ◌∷◌, length, map, Option, Some, None, if◌then◌else◌, refl, sym, ◌∙◌, ap, arith}
use Rattle.std.specs.List.{list_any, flat_map, filter_map, cons_option}
use Rattle.lex_core.specs.LogicalLines.{LogicalLine}
use Rattle.name_table.specs.Variables.{are_different, is_in}
use Rattle.net_model.specs.declared.text_fault.TextFault.{TextFault}
use Rattle.net_model.specs.declared.text_fault.TextFault.TheVariants.{At}
use Rattle.net_model.specs.declared.text_fault.TextKind.{TextKind}
use Rattle.net_model.specs.declared.text_fault.TextKind.TheVariants as kinds
use Rattle.net_model.specs.Faults.{fault_or}
use Rattle.net_model.specs.Forms.{Name}
use Rattle.net_model.specs.NetTexts.{distinct}
use Rattle.net_model.specs.KissForms.{KissForm, InputsWidth, OutputsWidth, CountLine, ResetState, InputNames, OutputNames, StepRow, LastLine, kiss_said_by}
use Rattle.net_model.specs.KissTexts.{is_step, states_on, states_in, reset_given, is_reset_known, input_names, output_names}
use Rattle.kiss_reader.specs.KissFaults.{resets_unknown, is_empty, fault_of_form, text_fault}
use Rattle.kiss_reader.specs.SecondPass.{resets_unknown_at, kind_of_form, kind_of_said, rows_fault}
use Rattle.kiss_reader.proofs.Kept.{any_with}
use Rattle.kiss_reader.proofs.Passing.{if_none, not_false}
use Rattle.kiss_reader.proofs.Standing.{no_fault}

same_reset : (text : List KissForm) (form : KissForm) → resets_unknown text form ≡ resets_unknown_at (states_in text) form
same_reset text (InputsWidth count) = refl
same_reset text (OutputsWidth count) = refl
same_reset text CountLine = refl
same_reset text (ResetState name) = refl
same_reset text (InputNames names) = refl
same_reset text (OutputNames names) = refl
same_reset text (StepRow input present next output) = refl
same_reset text LastLine = refl

-- where columns repeat a name no row stands above
same_twice : (step stepped repeats : Bool) → (stepped && repeats) ≡ false → (step && (not stepped && repeats)) ≡ (step && repeats)
same_twice true true true h = cc
same_twice true true false h = refl
same_twice true false repeats h = refl
same_twice false stepped repeats h = refl

no_step : (stepped step repeats : Bool) → (stepped && repeats) ≡ false → (step && repeats) ≡ false → ((stepped || step) && repeats) ≡ false
no_step true step repeats h k = h
no_step false step repeats h k = k

abbrev pub repeats : List KissForm → Bool
repeats text = not (are_different (input_names text ++ output_names text))

-- of the last line the first pass over rows tells whether there are any
last_kind : (twice unknown none : Bool) (n : ℕ) →
    fault_or (if twice then Some kinds.DrivenTwice else (if unknown then Some kinds.UnknownReset else (if none then Some kinds.NoRows else None))) n None
    ≡ fault_or (if twice then Some kinds.DrivenTwice else (if unknown then Some kinds.UnknownReset else None)) n (if none then Some (At n kinds.NoRows) else None)
last_kind true unknown none n = refl
last_kind false true none n = refl
last_kind false false true n = refl
last_kind false false false n = refl

abbrev two_kinds : Bool → Bool → Option TextKind
two_kinds twice unknown = if twice then Some kinds.DrivenTwice else (if unknown then Some kinds.UnknownReset else None)

later_same : (twice unknown : Bool) (n : ℕ) (later more : Option TextFault) → (twice ≡ false → later ≡ more) → fault_or (two_kinds twice unknown) n later ≡ fault_or (two_kinds twice unknown) n more
later_same true unknown n later more h = refl
later_same false unknown n later more h = ap (fault_or (two_kinds false unknown) n) (h refl)

same_line : (text above : List KissForm) (last : ℕ) (line : LogicalLine) (lines : List LogicalLine) (form : KissForm) → kiss_said_by line ≡ Some form → (list_any is_step above && repeats text) ≡ false
    → ((is_step form && repeats text) ≡ false → text_fault text (above ++ form ∷ []) lines ≡ (if is_empty lines then None else rows_fault (repeats text) (states_in text) line.number lines))
    → text_fault text above (line ∷ lines) ≡ rows_fault (repeats text) (states_in text) last (line ∷ lines)
same_line text above last line [] form said h later =
    ap (λ s. fault_of_form (λ above'. text_fault text above' []) text above s line []) said
    ∙ ((λ i. fault_or (if same_twice (is_step form) (list_any is_step above) (repeats text) h i then Some kinds.DrivenTwice
    else (if same_reset text form i then Some kinds.UnknownReset
    else (if length (states_in text) == 0 then Some kinds.NoRows else None))) line.number None)
    ∙ (last_kind (is_step form && repeats text) (resets_unknown_at (states_in text) form) (length (states_in text) == 0) line.number
    ∙ sym (ap (λ s. fault_or (kind_of_said (repeats text) (states_in text) s) line.number (rows_fault (repeats text) (states_in text) line.number [])) said)))
same_line text above last line (below ∷ lines) form said h later =
    ap (λ s. fault_of_form (λ above'. text_fault text above' (below ∷ lines)) text above s line (below ∷ lines)) said
    ∙ ((λ i. fault_or (two_kinds (same_twice (is_step form) (list_any is_step above) (repeats text) h i) (same_reset text form i)) line.number (text_fault text (above ++ form ∷ []) (below ∷ lines)))
    ∙ (later_same (is_step form && repeats text) (resets_unknown_at (states_in text) form) line.number _ _ later
    ∙ sym (ap (λ s. fault_or (kind_of_said (repeats text) (states_in text) s) line.number (rows_fault (repeats text) (states_in text) line.number (below ∷ lines))) said)))

-- both say the same of lines that say something
pub same_rows : (text above : List KissForm) (last : ℕ) (line : LogicalLine) (lines : List LogicalLine) (forms : List KissForm) → map kiss_said_by (line ∷ lines) ≡ map Some forms → (list_any is_step above && repeats text) ≡ false → text_fault text above (line ∷ lines) ≡ rows_fault (repeats text) (states_in text) last (line ∷ lines)
same_rows text above last line lines [] is h = cc
same_rows text above last line [] (form ∷ forms) is h =
    let said : kiss_said_by line ≡ Some form = cc in
    same_line text above last line [] form said h (λ none. refl)
same_rows text above last line (below ∷ lines) (form ∷ forms) is h =
    let said : kiss_said_by line ≡ Some form = cc in
    let rest : map kiss_said_by (below ∷ lines) ≡ map Some forms = cc in
    same_line text above last line (below ∷ lines) form said h
    (λ none. same_rows text (above ++ form ∷ []) line.number below lines forms rest
    (ap (λ b. b && repeats text) (any_with is_step above form) ∙ no_step (list_any is_step above) (is_step form) (repeats text) h none))

-- where columns repeat a name and no line has a fault, there is no row, and so no state

and_true : (b : Bool) → (b && true) ≡ false → b ≡ false
and_true true h = h
and_true false h = refl

pub no_states_on : (form : KissForm) → is_step form ≡ false → states_on form ≡ []
no_states_on (InputsWidth count) h = refl
no_states_on (OutputsWidth count) h = refl
no_states_on CountLine h = refl
no_states_on (ResetState name) h = refl
no_states_on (InputNames names) h = refl
no_states_on (OutputNames names) h = refl
no_states_on (StepRow input present next output) h = cc
no_states_on LastLine h = refl

said_kind : (again : Bool) (states : List Name) (said : Option KissForm) (form : KissForm) → said ≡ Some form → kind_of_said again states said ≡ None → ((is_step form && again) ≡ false) × (resets_unknown_at states form ≡ false)
said_kind again states said form is h =
    let kind : kind_of_form again states form ≡ None = ap (kind_of_said again states) (sym is) ∙ h in
    let twice = if_none (is_step form && again) kinds.DrivenTwice _ kind in
    (twice.0, (if_none (resets_unknown_at states form) kinds.UnknownReset None twice.1).0)

some_states : (states : List Name) (last : ℕ) → (if length states == 0 then Some (At last kinds.NoRows) else None) ≡ None → 0 < length states
some_states [] last h = cc
some_states (state ∷ states) last h = omega arith

pub has_states : (again : Bool) (states : List Name) (last : ℕ) (lines : List LogicalLine) → rows_fault again states last lines ≡ None → 0 < length states
has_states again states last [] h = some_states states last h
has_states again states last (line ∷ lines) h = has_states again states line.number lines (no_fault (kind_of_said again states (kiss_said_by line)) line.number _ h).1

no_states : (states : List Name) (last : ℕ) (lines : List LogicalLine) → rows_fault true states last lines ≡ None → flat_map states_on (filter_map kiss_said_by lines) ≡ []
no_states states last [] h = refl
no_states states last (line ∷ lines) h =
    let parts = no_fault (kind_of_said true states (kiss_said_by line)) line.number _ h in
    let rest = no_states states line.number lines parts.1 in
    elim (kiss_said_by line) as (λ said. kiss_said_by line ≡ said → flat_map states_on (cons_option said (filter_map kiss_said_by lines)) ≡ []) [
      | None ↦ λ is. rest
      | Some form ↦ λ is.
          let none = no_states_on form (and_true (is_step form) (said_kind true states (kiss_said_by line) form is parts.0).0) in
          (λ i. none i ++ rest i)
    ] refl

pub no_repeats : (again : Bool) (states : List Name) (lines : List LogicalLine) → rows_fault again states 0 lines ≡ None → states ≡ states_in (filter_map kiss_said_by lines) → again ≡ false
no_repeats false states lines h is = refl
no_repeats true states lines h is =
    let some = has_states true states 0 lines h in
    let none : states ≡ [] = is ∙ ap (distinct []) (no_states states 0 lines h) in
    let size : length states ≡ 0 = ap length none in
    absurd (omega arith)

-- the state to start in

known_with : (states : List Name) (form : KissForm) (text : List KissForm) → resets_unknown_at states form ≡ false → is_reset_known states (reset_given text) ≡ true → is_reset_known states (reset_given (form ∷ text)) ≡ true
known_with states (InputsWidth count) text h known = known
known_with states (OutputsWidth count) text h known = known
known_with states CountLine text h known = known
known_with states (ResetState name) text h known = not_false (is_in states name) h
known_with states (InputNames names) text h known = known
known_with states (OutputNames names) text h known = known
known_with states (StepRow input present next output) text h known = known
known_with states LastLine text h known = known

pub reset_known : (again : Bool) (states : List Name) (last : ℕ) (lines : List LogicalLine) → rows_fault again states last lines ≡ None → is_reset_known states (reset_given (filter_map kiss_said_by lines)) ≡ true
reset_known again states last [] h = refl
reset_known again states last (line ∷ lines) h =
    let parts = no_fault (kind_of_said again states (kiss_said_by line)) line.number _ h in
    let rest = reset_known again states line.number lines parts.1 in
    elim (kiss_said_by line) as (λ said. kiss_said_by line ≡ said → is_reset_known states (reset_given (cons_option said (filter_map kiss_said_by lines))) ≡ true) [
      | None ↦ λ is. rest
      | Some form ↦ λ is. known_with states form (filter_map kiss_said_by lines) (said_kind again states (kiss_said_by line) form is parts.0).1 rest
    ] refl
