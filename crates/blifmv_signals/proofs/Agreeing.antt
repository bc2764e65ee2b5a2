-- The faults by marks are those by lists.
use Rattle.std.proofs.Common.{◌≡◌, ◌<◌, ◌+◌, ◌&&◌, ◌||◌, ℕ, Bool, false, not, List, [], ◌∷◌, ◌++◌, length, replicate, nat_eq, count_by, Option, Some, None, if◌then◌else◌, Contains, Decides, refl, sym, ◌∙◌, ap, subst}
use Rattle.std.specs.List.{list_any}
use Rattle.std.proofs.lemmas.Bool.Decides.{same_from_decides}
use Rattle.lex_core.specs.LogicalLines.{LogicalLine}
use Rattle.net_model.specs.declared.text_fault.TextKind.{TextKind}
use Rattle.net_model.specs.declared.text_fault.TextKind.TheVariants.{DrivenTwice, Undriven, ResetNotConstant, AccShape}
use Rattle.net_model.specs.Words.{Scope}
use Rattle.net_model.specs.Forms.{Name, Form, ModelLine, InputsLine, OutputsLine, DomainsLine, TableLine, ResetLine, LatchLine, DefaultLine, EndLine, RowLine, apart, words_of, shape_of, said_by}
use Rattle.net_model.specs.NetTexts.{places_in, net_with}
use Rattle.net_model.specs.Nets.{Net}
use Rattle.net_model.specs.Conditions.{times_driven}
use Rattle.net_model.specs.Faults.{fault_or}
use Rattle.net_conditions.specs.Marks.{is_marked}
use Rattle.net_conditions.proofs.Marking.{Adds-none}
use Rattle.net_model.proofs.Computed.{Decides-member}
use Rattle.net_conditions.proofs.Listed.{Decides-counted}
use Rattle.blifmv_signals.specs.declared.above.Above.{Above}
use Rattle.blifmv_signals.specs.declared.whole.Whole.{Whole}
use Rattle.blifmv_signals.specs.SignalFaults.{drives_on, sets_on, uses_on, names_outputs, is_among, some_twice, is_driven_twice, is_no_reset, kind_said, seen_said, first_fault, nothing_seen, Seen, Known, IsKnown}
use Rattle.blifmv_signals.specs.Marked.{all_marked, marks_twice, nothing_above, above_by, is_twice_by, is_no_reset_by, kind_by, marked_fault, IsWhole}
use Rattle.blifmv_signals.proofs.Marking.{IsOf, twice_named, marked_named}
use Rattle.blifmv_signals.proofs.Counted.{counted}

-- the names of what a line drives, and of what it resets
abbrev drive_names : Form → List Name
drive_names (InputsLine names) = names
drive_names (TableLine ins outs) = outs
drive_names (LatchLine input output) = output ∷ []
drive_names _ = []

abbrev set_names : Form → List Name
set_names (ResetLine ins outs) = outs
set_names _ = []

drives_named : (vars : Scope) (form : Form) → drives_on vars form ≡ places_in vars (drive_names form)
drives_named vars (ModelLine names) = refl
drives_named vars (InputsLine names) = refl
drives_named vars (OutputsLine names) = refl
drives_named vars (DomainsLine names count values) = refl
drives_named vars (TableLine ins outs) = refl
drives_named vars (ResetLine ins outs) = refl
drives_named vars (LatchLine input output) = refl
drives_named vars (DefaultLine words) = refl
drives_named vars EndLine = refl
drives_named vars (RowLine words) = refl

sets_named : (vars : Scope) (form : Form) → sets_on vars form ≡ places_in vars (set_names form)
sets_named vars (ModelLine names) = refl
sets_named vars (InputsLine names) = refl
sets_named vars (OutputsLine names) = refl
sets_named vars (DomainsLine names count values) = refl
sets_named vars (TableLine ins outs) = refl
sets_named vars (ResetLine ins outs) = refl
sets_named vars (LatchLine input output) = refl
sets_named vars (DefaultLine words) = refl
sets_named vars EndLine = refl
sets_named vars (RowLine words) = refl

-- the marks are those of what was seen
record Agrees (vars : Scope) (seen : Seen) (above : Above) : Type 0 where
  driven : IsOf vars seen.driven above.driven
  reset : IsOf vars seen.reset above.reset
  outputs : seen.has_outputs ≡ above.has_outputs

agree_at_first : (vars : Scope) → Agrees vars nothing_seen (nothing_above vars)
agree_at_first vars = record {
  driven = Adds-none (replicate (length vars + 1) false);
  reset = Adds-none (replicate (length vars + 1) false);
  outputs = refl;
}

agree_behind : (vars : Scope) (seen : Seen) (above : Above) (said : Option Form) → Agrees vars seen above → Agrees vars (seen_said vars seen said) (above_by vars above said)
agree_behind vars seen above None agrees = agrees
agree_behind vars seen above (Some form) agrees = record {
  driven = subst (λ signals. IsOf vars (seen.driven ++ signals) (all_marked above.driven signals)) (sym (drives_named vars form)) (marked_named vars seen.driven above.driven (drive_names form) agrees.driven);
  reset = subst (λ signals. IsOf vars (seen.reset ++ signals) (all_marked above.reset signals)) (sym (sets_named vars form)) (marked_named vars seen.reset above.reset (set_names form) agrees.reset);
  outputs = ap (λ b. b || names_outputs form) agrees.outputs;
}

twice_same : (vars : Scope) (seen : Seen) (above : Above) (form : Form) → Agrees vars seen above → is_driven_twice vars seen form ≡ is_twice_by vars above form
twice_same vars seen above form agrees =
    let driven = subst (λ signals. some_twice seen.driven signals ≡ marks_twice above.driven signals) (sym (drives_named vars form)) (twice_named vars seen.driven above.driven (drive_names form) agrees.driven) in
    let reset = subst (λ signals. some_twice seen.reset signals ≡ marks_twice above.reset signals) (sym (sets_named vars form)) (twice_named vars seen.reset above.reset (set_names form) agrees.reset) in
    λ i. (driven i) || (reset i)

-- two that know the same
record KnowSame (known : Known) (whole : Whole) : Type 0 where
  all : (signal : ℕ) → is_among known.all signal ≡ is_marked whole.driven signal
  varying : (signal : ℕ) → is_marked known.varying signal ≡ is_marked whole.varying signal
  latches : (signal : ℕ) → is_among known.latches signal ≡ is_marked whole.latches signal
  acceptance : known.acceptance ≡ whole.acceptance

no_reset_same : (vars : Scope) (known : Known) (whole : Whole) (form : Form) → KnowSame known whole → is_no_reset vars known.varying known.latches form ≡ is_no_reset_by vars whole form
no_reset_same vars known whole (ModelLine names) same = refl
no_reset_same vars known whole (InputsLine names) same = refl
no_reset_same vars known whole (OutputsLine names) same = refl
no_reset_same vars known whole (DomainsLine names count values) same = refl
no_reset_same vars known whole (TableLine ins outs) same = refl
no_reset_same vars known whole (ResetLine ins outs) same =
    λ i. list_any (λ signal. same.varying signal i) (places_in vars ins) || list_any (λ signal. not (same.latches signal i)) (places_in vars outs)
no_reset_same vars known whole (LatchLine input output) same = refl
no_reset_same vars known whole (DefaultLine words) same = refl
no_reset_same vars known whole EndLine same = refl
no_reset_same vars known whole (RowLine words) same = refl

abbrev pub kind_by_tests : Bool → Bool → Bool → Bool → Option TextKind
kind_by_tests twice undriven no_reset acceptance =
    if twice then Some DrivenTwice
    else (if undriven then Some Undriven
    else (if no_reset then Some ResetNotConstant
    else (if acceptance then Some AccShape else None)))

kind_same : (vars : Scope) (known : Known) (whole : Whole) (seen : Seen) (above : Above) (said : Option Form) → KnowSame known whole → Agrees vars seen above → kind_said vars known seen said ≡ kind_by vars whole above said
kind_same vars known whole seen above None same agrees = refl
kind_same vars known whole seen above (Some form) same agrees =
    let twice = twice_same vars seen above form agrees in
    let no_reset = no_reset_same vars known whole form same in
    λ i. kind_by_tests (twice i) (list_any (λ signal. not (same.all signal i)) (uses_on vars form)) (no_reset i) (names_outputs form && (not (agrees.outputs i) && not (same.acceptance i)))

faults_same : (vars : Scope) (known : Known) (whole : Whole) (seen : Seen) (above : Above) (lines : List LogicalLine) → KnowSame known whole → Agrees vars seen above → first_fault vars known seen lines ≡ marked_fault vars whole above lines
faults_same vars known whole seen above [] same agrees = refl
faults_same vars known whole seen above (line ∷ lines) same agrees =
    let here = kind_same vars known whole seen above (said_by line) same agrees in
    let rest = faults_same vars known whole (seen_said vars seen (said_by line)) (above_by vars above (said_by line)) lines same (agree_behind vars seen above (said_by line) agrees) in
    λ i. fault_or (here i) line.number (rest i)

know_same : (net : Net) (text : List Form) (known : Known) (whole : Whole) → net ≡ net_with net.names text → IsKnown net text known → IsWhole net whole → KnowSame known whole
know_same net text known whole said is_known is_whole = record {
  all = λ signal.
      let all = known.all in
      let same : count_by (nat_eq signal) all ≡ times_driven net signal =
      ap (count_by (nat_eq signal)) is_known.all ∙ (sym (counted net.names text signal) ∙ ap (λ n. times_driven n signal) (sym said)) in
      same_from_decides (is_among all signal) (is_marked whole.driven signal)
      (subst (λ (n : ℕ). Decides (is_among all signal) (0 < n)) same (Decides-counted (nat_eq signal) all)) (is_whole.driven signal);
  varying = λ signal. same_from_decides (is_marked known.varying signal) (is_marked whole.varying signal) (is_known.varying signal) (is_whole.varying signal);
  latches = λ signal.
      same_from_decides (is_among known.latches signal) (is_marked whole.latches signal)
      (subst (λ signals. Decides (is_among known.latches signal) (Contains signals signal)) is_known.latches (Decides-member known.latches signal)) (is_whole.latches signal);
  acceptance = same_from_decides known.acceptance whole.acceptance is_known.acceptance is_whole.acceptance;
}

pub fault_same : (net : Net) (text : List Form) (known : Known) (whole : Whole) (lines : List LogicalLine) → net ≡ net_with net.names text → IsKnown net text known → IsWhole net whole
    → marked_fault net.names whole (nothing_above net.names) lines ≡ first_fault net.names known nothing_seen lines
fault_same net text known whole lines said is_known is_whole =
    sym (faults_same net.names known whole nothing_seen (nothing_above net.names) lines (know_same net text known whole said is_known is_whole) (agree_at_first net.names))

-- a line without a fault leaves the fault to the lines below it
pub fault_below : (vars : Scope) (whole : Whole) (old new : Above) (line : LogicalLine) (above lines : List LogicalLine) (words : List Name) → above ≡ line ∷ lines → words ≡ apart (words_of line)
    → None ≡ kind_by vars whole old (shape_of words) → new ≡ above_by vars old (shape_of words) → marked_fault vars whole new lines ≡ marked_fault vars whole old above
fault_below vars whole old new line above lines words first said none behind =
    let kind : kind_by vars whole old (said_by line) ≡ None = ap (λ ws. kind_by vars whole old (shape_of ws)) (sym said) ∙ sym none in
    let next : above_by vars old (said_by line) ≡ new = ap (λ ws. above_by vars old (shape_of ws)) (sym said) ∙ sym behind in
    sym (ap (marked_fault vars whole old) first ∙ (λ i. fault_or (kind i) line.number (marked_fault vars whole (next i) lines)))
