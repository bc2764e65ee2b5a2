-- Lines without a fault.
use Rattle.std.proofs.Common.{◌≡◌, ◌&&◌, ◌||◌, ℕ, Bool, true, false, not, List, [], ◌∷◌, ◌++◌, Option, Some, None, if◌then◌else◌, refl, sym, subst, append_assoc}
use Rattle.std.specs.List.{flat_map, filter_map, cons_option}
use Rattle.std.proofs.lemmas.List.{append-nil}
use Rattle.lex_core.specs.LogicalLines.{LogicalLine}
use Rattle.net_model.specs.declared.text_fault.TextKind.{TextKind}
use Rattle.net_model.specs.declared.text_fault.TextKind.TheVariants.{DrivenTwice, Undriven, ResetNotConstant, AccShape}
use Rattle.net_model.specs.Words.{Scope}
use Rattle.net_model.specs.Forms.{Form, said_by}
use Rattle.net_model.specs.Faults.{fault_or}
use Rattle.net_conditions.proofs.Listed.{IsOnce, once_more}
use Rattle.blifmv_signals.specs.SignalFaults.{drives_on, sets_on, names_outputs, is_among, some_twice, is_undriven, is_no_reset, kind_of_signals, kind_said, seen_said, seen_behind, first_fault, Seen, Known}

-- no test of a line finds a fault
pub record Passes (vars : Scope) (known : Known) (seen : Seen) (form : Form) : Type 0 where
  pub once : some_twice seen.driven (drives_on vars form) ≡ false
  pub reset_once : some_twice seen.reset (sets_on vars form) ≡ false
  pub driven : is_undriven vars known.all form ≡ false
  pub resets : is_no_reset vars known.varying known.latches form ≡ false
  pub acceptance : (names_outputs form && (not seen.has_outputs && not known.acceptance)) ≡ false

abbrev pub AllPass : Scope → Known → Seen → List Form → Type 0
AllPass vars known seen [] = Unit {0}
AllPass vars known seen (form ∷ text) = Passes vars known seen form × AllPass vars known (seen_behind vars seen form) text

pub neither : (a b : Bool) → (a || b) ≡ false → (a ≡ false) × (b ≡ false)
neither true b is = absurd (cc)
neither false b is = (refl, is)

passes_by : (vars : Scope) (known : Known) (seen : Seen) (form : Form) (once reset_once driven resets acceptance : Bool)
    → some_twice seen.driven (drives_on vars form) ≡ once → some_twice seen.reset (sets_on vars form) ≡ reset_once → is_undriven vars known.all form ≡ driven
    → is_no_reset vars known.varying known.latches form ≡ resets → (names_outputs form && (not seen.has_outputs && not known.acceptance)) ≡ acceptance
    → (if once || reset_once then Some DrivenTwice else (if driven then Some Undriven else (if resets then Some ResetNotConstant else (if acceptance then Some AccShape else None)))) ≡ None
    → Passes vars known seen form
passes_by vars known seen form true reset_once driven resets acceptance a b c d e none = absurd (cc)
passes_by vars known seen form false true driven resets acceptance a b c d e none = absurd (cc)
passes_by vars known seen form false false true resets acceptance a b c d e none = absurd (cc)
passes_by vars known seen form false false false true acceptance a b c d e none = absurd (cc)
passes_by vars known seen form false false false false true a b c d e none = absurd (cc)
passes_by vars known seen form false false false false false a b c d e none = record { once = a; reset_once = b; driven = c; resets = d; acceptance = e }

passes : (vars : Scope) (known : Known) (seen : Seen) (form : Form) → kind_of_signals vars known seen form ≡ None → Passes vars known seen form
passes vars known seen form none = passes_by vars known seen form _ _ _ _ _ refl refl refl refl refl none

-- one line more, where the lines below pass
all_pass_by : (vars : Scope) (known : Known) (seen : Seen) (line : ℕ) (said : Option Form) (lines : List LogicalLine) → ((next : Seen) → first_fault vars known next lines ≡ None → AllPass vars known next (filter_map said_by lines))
    → fault_or (kind_said vars known seen said) line (first_fault vars known (seen_said vars seen said) lines) ≡ None → AllPass vars known seen (cons_option said (filter_map said_by lines))
all_pass_by vars known seen line None lines below none = below seen none
all_pass_by vars known seen line (Some form) lines below none = by_kind (kind_of_signals vars known seen form) refl none
  where
    by_kind : (kind : Option TextKind) → kind_of_signals vars known seen form ≡ kind → fault_or kind line (first_fault vars known (seen_behind vars seen form) lines) ≡ None → AllPass vars known seen (form ∷ filter_map said_by lines)
    by_kind None is later = (passes vars known seen form is, below (seen_behind vars seen form) later)
    by_kind (Some kind) is later = absurd (cc)

pub all_pass : (vars : Scope) (known : Known) (seen : Seen) (lines : List LogicalLine) → first_fault vars known seen lines ≡ None → AllPass vars known seen (filter_map said_by lines)
all_pass vars known seen [] none = tt
all_pass vars known seen (line ∷ lines) none = all_pass_by vars known seen line.number (said_by line) lines (λ next. all_pass vars known next lines) none

-- lists that go on without a signal twice
once_behind : (had signals : List ℕ) → IsOnce had → some_twice had signals ≡ false → IsOnce (had ++ signals)
once_behind had [] once none = subst IsOnce (sym (append-nil had)) once
once_behind had (signal ∷ signals) once none =
    let both = neither (is_among had signal) (some_twice (had ++ signal ∷ []) signals) none in
    subst IsOnce (append_assoc had (signal ∷ []) signals) (once_behind (had ++ signal ∷ []) signals (once_more had signal once both.0) both.1)

pub driven_once : (vars : Scope) (known : Known) (seen : Seen) (text : List Form) → AllPass vars known seen text → IsOnce seen.driven → IsOnce (seen.driven ++ flat_map (drives_on vars) text)
driven_once vars known seen [] pass once = subst IsOnce (sym (append-nil seen.driven)) once
driven_once vars known seen (form ∷ text) pass once =
    subst IsOnce (append_assoc seen.driven (drives_on vars form) (flat_map (drives_on vars) text))
    (driven_once vars known (seen_behind vars seen form) text pass.1 (once_behind seen.driven (drives_on vars form) once pass.0.once))

pub reset_once : (vars : Scope) (known : Known) (seen : Seen) (text : List Form) → AllPass vars known seen text → IsOnce seen.reset → IsOnce (seen.reset ++ flat_map (sets_on vars) text)
reset_once vars known seen [] pass once = subst IsOnce (sym (append-nil seen.reset)) once
reset_once vars known seen (form ∷ text) pass once =
    subst IsOnce (append_assoc seen.reset (sets_on vars form) (flat_map (sets_on vars) text))
    (reset_once vars known (seen_behind vars seen form) text pass.1 (once_behind seen.reset (sets_on vars form) once pass.0.reset_once))
