-- The signals of a network are rightly known in one way, as far as its faults go.
use Rattle.std.proofs.Common.{◌≡◌, ◌&&◌, ◌||◌, inl, inr, ℕ, Bool, true, false, not, List, [], ◌∷◌, length, codes, Option, Some, None, Decides, refl, sym, ◌∙◌, ap, subst}
use Rattle.std.specs.List.{list_any, flat_map}
use Rattle.std.specs.Str.{bytes_eq}
use Rattle.std.proofs.lemmas.Bool.{false≢true}
use Rattle.std.proofs.lemmas.Bool.Decides.{eqb_tells, same_from_decides}
use Rattle.std.proofs.lemmas.Slice.Eq.{bytes_eq-Decides}
use Rattle.lex_core.specs.LogicalLines.{LogicalLine, logical_lines}
use Rattle.name_table.specs.ScopeVars.{variable_at}
use Rattle.net_model.specs.Accepted.{computes}
use Rattle.net_model.specs.Conditions.{latch_outputs, IsAutomaton, HasAcceptance}
use Rattle.net_model.specs.Forms.{Form, ModelLine, InputsLine, OutputsLine, DomainsLine, TableLine, ResetLine, LatchLine, DefaultLine, EndLine, RowLine, said_by}
use Rattle.net_model.specs.Nets.{Net}
use Rattle.net_model.specs.NetTexts.{places_in}
use Rattle.net_model.specs.SoundNets.{HasKnownSignals}
use Rattle.net_model.specs.Spellings.{domain_at}
use Rattle.net_model.specs.Words.{Scope}
use Rattle.net_model.specs.Faults.{fault_or}
use Rattle.net_model.proofs.Computed.{acceptance_decided}
use Rattle.net_conditions.specs.Marks.{is_marked}
use Rattle.blifmv_signals.specs.SignalFaults.{drives_on, names_outputs, is_among, is_driven_twice, is_undriven, is_no_reset, kind_said, seen_said, first_fault, nothing_seen, signal_fault, Seen, Known, IsKnown, AcceptsRightly}
use Rattle.blifmv_signals.proofs.Agreeing.{kind_by_tests}
use Rattle.blifmv_signals.proofs.Rounds.{varying_marked}

-- an answer that is right
abbrev Answer : Type 0 → Type 0
Answer P = (answer : Bool) × Decides answer P

-- whether an output is accepted as the format wants
acceptance_of : (net : Net) (signal : ℕ) → Answer (HasAcceptance net signal)
acceptance_of net signal = elim (eqb_tells (length (domain_at net.names signal)) 2) [
  | inl two ↦ (list_any (computes (latch_outputs net) signal) net.tables, acceptance_decided net signal two.1)
  | inr other ↦ (false, (λ t. absurd (false≢true t), λ has. absurd (other.1 has.binary)))
]

-- whether the condition on `Acc` holds
acceptance_met : (net : Net) → Answer (AcceptsRightly net)
acceptance_met net = by net.outputs refl
  where
    is_named_acc : ℕ → Bool
    is_named_acc signal = bytes_eq (variable_at net.names signal).name (codes "Acc")

    names_acc : (signal : ℕ) → Decides (is_named_acc signal) ((variable_at net.names signal).name ≡ codes "Acc")
    names_acc signal = bytes_eq-Decides (variable_at net.names signal).name (codes "Acc")

    no_automaton : ((signal : ℕ) → ¬ IsAutomaton net signal) → Answer (AcceptsRightly net)
    no_automaton none = (true, (λ _ signal auto. absurd (none signal auto), λ _. refl))

    by_name : (only : ℕ) (named : Bool) → net.outputs ≡ only ∷ [] → is_named_acc only ≡ named → Answer (AcceptsRightly net)
    by_name only true is name =
        let accepted = acceptance_of net only in (
          accepted.0,
          (
            λ yes signal auto. let same : only ∷ [] ≡ signal ∷ [] = sym is ∙ auto.0 in let here : only ≡ signal = cc in subst (HasAcceptance net) here (accepted.1.0 yes),
            λ rightly. accepted.1.1 (rightly only (is, (names_acc only).0 name)),
          ),
        )
    by_name only false is name = no_automaton (λ signal auto.
        let same : only ∷ [] ≡ signal ∷ [] = sym is ∙ auto.0 in
        let here : only ≡ signal = cc in
        let named : is_named_acc only ≡ true = ap is_named_acc here ∙ (names_acc signal).1 auto.1 in cc)

    by : (outputs : List ℕ) → net.outputs ≡ outputs → Answer (AcceptsRightly net)
    by [] is = no_automaton (λ signal auto. let same : [] ≡ signal ∷ [] = sym is ∙ auto.0 in cc)
    by (only ∷ []) is = by_name only (is_named_acc only) is refl
    by (first ∷ second ∷ rest) is = no_automaton (λ signal auto. let same : first ∷ second ∷ rest ≡ signal ∷ [] = sym is ∙ auto.0 in cc)

pub right_known : (net : Net) (text : List Form) → HasKnownSignals net → (known : Known) × IsKnown net text known
right_known net text known =
    let varying = varying_marked net known in
    let acceptance = acceptance_met net in (
      record { all = flat_map (drives_on net.names) text; varying = varying.0; latches = latch_outputs net; acceptance = acceptance.0 },
      record { all = refl; varying = varying.1; latches = refl; acceptance = acceptance.1 },
    )

-- Two that are right pick the same fault.

record AreAlike (known other : Known) : Type 0 where
  all : known.all ≡ other.all
  varying : (signal : ℕ) → is_marked known.varying signal ≡ is_marked other.varying signal
  latches : known.latches ≡ other.latches
  acceptance : known.acceptance ≡ other.acceptance

no_reset_alike : (vars : Scope) (known other : Known) (form : Form) → AreAlike known other → is_no_reset vars known.varying known.latches form ≡ is_no_reset vars other.varying other.latches form
no_reset_alike vars known other (ModelLine names) alike = refl
no_reset_alike vars known other (InputsLine names) alike = refl
no_reset_alike vars known other (OutputsLine names) alike = refl
no_reset_alike vars known other (DomainsLine names count values) alike = refl
no_reset_alike vars known other (TableLine ins outs) alike = refl
no_reset_alike vars known other (ResetLine ins outs) alike =
    λ i. list_any (λ signal. alike.varying signal i) (places_in vars ins) || list_any (λ signal. not (is_among (alike.latches i) signal)) (places_in vars outs)
no_reset_alike vars known other (LatchLine input output) alike = refl
no_reset_alike vars known other (DefaultLine words) alike = refl
no_reset_alike vars known other EndLine alike = refl
no_reset_alike vars known other (RowLine words) alike = refl

kind_alike : (vars : Scope) (known other : Known) (seen : Seen) (said : Option Form) → AreAlike known other → kind_said vars known seen said ≡ kind_said vars other seen said
kind_alike vars known other seen None alike = refl
kind_alike vars known other seen (Some form) alike =
    let no_reset = no_reset_alike vars known other form alike in
    λ i. kind_by_tests (is_driven_twice vars seen form) (is_undriven vars (alike.all i) form) (no_reset i) (names_outputs form && (not seen.has_outputs && not (alike.acceptance i)))

faults_alike : (vars : Scope) (known other : Known) (seen : Seen) (lines : List LogicalLine) → AreAlike known other → first_fault vars known seen lines ≡ first_fault vars other seen lines
faults_alike vars known other seen [] alike = refl
faults_alike vars known other seen (line ∷ lines) alike =
    let here = kind_alike vars known other seen (said_by line) alike in
    let rest = faults_alike vars known other (seen_said vars seen (said_by line)) lines alike in
    λ i. fault_or (here i) line.number (rest i)

pub one_fault : (net : Net) (text : List Form) (known other : Known) (bytes : List ℕ) → IsKnown net text known → IsKnown net text other → signal_fault net known bytes ≡ signal_fault net other bytes
one_fault net text known other bytes is_known is_other =
    faults_alike net.names known other nothing_seen (logical_lines bytes) (record {
      all = is_known.all ∙ sym is_other.all;
      varying = λ signal. same_from_decides (is_marked known.varying signal) (is_marked other.varying signal) (is_known.varying signal) (is_other.varying signal);
      latches = is_known.latches ∙ sym is_other.latches;
      acceptance = same_from_decides known.acceptance other.acceptance is_known.acceptance is_other.acceptance;
    })
