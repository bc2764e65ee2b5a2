-- The lines of a network that meets the conditions have no fault.
use Rattle.std.proofs.Common.{◌≡◌, ◌<◌, ◌+◌, ◌&&◌, ◌||◌, ◌↔◌, inl, inr, ℕ, Bool, true, false, not, cond, List, [], ◌∷◌, ◌++◌, length, nat_eq, count_by, All, Contains, Option, Some, None, if◌then◌else◌, refl, sym, ◌∙◌, ap, subst, append_assoc, arith}
use Rattle.std.specs.List.{list_any, flat_map, filter_map, cons_option}
use Rattle.std.specs.Str.{bytes_eq}
use Rattle.std.proofs.lemmas.Bool.{false≢true, eq-eqb, or_from, not_from_true, false_from_ne_true}
use Rattle.std.proofs.lemmas.List.Elements.{All-nil, All-cons, All-head, All-tail, All-map, All-weaker}
use Rattle.std.proofs.lemmas.List.Sums.{sum_by-append, sum_by_push}
use Rattle.std.proofs.lemmas.Slice.Eq.{bytes_eq-Decides}
use Rattle.lex_core.specs.LogicalLines.{LogicalLine, logical_lines}
use Rattle.name_table.specs.Variables.{is_in, with_name}
use Rattle.net_model.specs.declared.text_fault.TextKind.TheVariants.{DrivenTwice, Undriven, ResetNotConstant, AccShape}
use Rattle.net_model.specs.Words.{Scope}
use Rattle.net_model.specs.Forms.{Name, Form, ModelLine, InputsLine, OutputsLine, DomainsLine, TableLine, ResetLine, LatchLine, DefaultLine, EndLine, RowLine, said_by}
use Rattle.net_model.specs.Nets.{Net, Table, Latch}
use Rattle.net_model.specs.NetTexts.{distinct, place_in, places_in, outputs_on, latches_on, tables_in, resets_in, net_with, text_in}
use Rattle.net_model.specs.Spellings.{domain_at}
use Rattle.net_model.specs.Conditions.{columns_of, uses, latch_outputs, times_driven, Varies, IsConstant, IsReset, MeetsConditions}
use Rattle.net_model.specs.Faults.{fault_or}
use Rattle.net_conditions.specs.Marks.{is_marked, IsSetOf}
use Rattle.net_model.proofs.Computed.{Decides-member}
use Rattle.net_conditions.proofs.Listed.{IsOnce, counts_found, Decides-counted}
use Rattle.blifmv_signals.specs.SignalFaults.{drives_on, sets_on, uses_on, names_outputs, is_among, some_twice, is_undriven, is_no_reset, kind_of_signals, kind_said, seen_said, seen_behind, first_fault, signal_fault, nothing_seen, Seen, Known, IsKnown}
use Rattle.blifmv_signals.proofs.Counted.{counted}
use Rattle.blifmv_signals.proofs.Passing.{Passes, AllPass, all_pass}
use Rattle.blifmv_signals.proofs.Faultless.{All-left, All-right, All-named, sets_of, conditions_met}

-- lists in which no signal stands twice

once_front : (xs ys : List ℕ) → IsOnce (xs ++ ys) → IsOnce xs
once_front xs ys once signal =
    let both = sum_by-append (λ x. cond (nat_eq signal x) 1 0) xs ys in
    let all = once signal in
    omega (arith, both, all)

not_among : (had : List ℕ) (signal : ℕ) → IsOnce (had ++ signal ∷ []) → is_among had signal ≡ false
not_among had signal once = elim (counts_found (nat_eq signal) had) [
  | inl some ↦
      let grown : count_by (nat_eq signal) (had ++ signal ∷ []) ≡ count_by (nat_eq signal) had + 1 =
      sum_by_push (λ x. cond (nat_eq signal x) 1 0) had signal ∙ ap (λ b. count_by (nat_eq signal) had + cond b 1 0) (eq-eqb signal signal refl) in
      let all = once signal in
      let found = some.1 in
      absurd (omega (arith, grown, all, found))
  | inr none ↦ none.0
]

none_twice : (had signals : List ℕ) → IsOnce (had ++ signals) → some_twice had signals ≡ false
none_twice had [] once = refl
none_twice had (signal ∷ signals) once =
    let again : IsOnce ((had ++ signal ∷ []) ++ signals) = subst IsOnce (sym (append_assoc had (signal ∷ []) signals)) once in
    or_from (is_among had signal) (some_twice (had ++ signal ∷ []) signals) (not_among had signal (once_front (had ++ signal ∷ []) signals again)) (none_twice (had ++ signal ∷ []) signals again)

-- a search finds nothing where no element passes
unfound : {X : Type 0} (p : X → Bool) (xs : List X) → All (λ x. p x ≡ false) xs → list_any p xs ≡ false
unfound p [] all = refl
unfound {X = X} p (x ∷ xs) all =
    let P : X → Type 0 = λ y. p y ≡ false in
    or_from (p x) (list_any p xs) (All-head P x xs all) (unfound p xs (All-tail P x xs all))

-- what each line uses is used by the network

module _ (vars : Scope) (P : ℕ → Type 0) where
  abbrev Named : Name → Type 0
  Named name = P (place_in vars name)

  -- a name that is there is one of those with the fact
  member : (had : List Name) (name : Name) → is_in had name ≡ true → All Named had → Named name
  member [] name there all = absurd (false≢true there)
  member (other ∷ had) name there all =
      elim (bytes_eq name other) as (λ b. bytes_eq name other ≡ b → (b || is_in had name) ≡ true → Named name) [
        | true ↦ λ same found. subst Named (sym ((bytes_eq-Decides name other).0 same)) (All-head Named other had all)
        | false ↦ λ apart found. member had name found (All-tail Named other had all)
      ] refl there

  with_name_back : (had : List Name) (name : Name) → All Named (with_name had name) → All Named had × Named name
  with_name_back had name all =
      elim (is_in had name) as (λ b. is_in had name ≡ b → All Named (if b then had else had ++ name ∷ []) → All Named had × Named name) [
        | true ↦ λ there had_all. (had_all, member had name there had_all)
        | false ↦ λ new both. (All-left Named had (name ∷ []) both, All-head Named name [] (All-right Named had (name ∷ []) both))
      ] refl all

  -- a fact of the distinct names is one of all names
  distinct_back : (had names : List Name) → All Named (distinct had names) → All Named had × All Named names
  distinct_back had [] all = (all, All-nil Named)
  distinct_back had (name ∷ names) all =
      let rest = distinct_back (with_name had name) names all in
      let here = with_name_back had name rest.0 in
      (here.0, All-cons Named name names here.1 rest.1)

  abbrev ends : Latch → List ℕ
  ends latch = latch.input ∷ latch.output ∷ []

  abbrev UsesAll : Form → Type 0
  UsesAll form = All P (uses_on vars form)

  plain : (form : Form) (text : List Form) → uses_on vars form ≡ [] → All UsesAll text → All UsesAll (form ∷ text)
  plain form text none all = All-cons UsesAll form text (subst (All P) (sym none) (All-nil P)) all

  uses_by : (text : List Form) → All Named (flat_map outputs_on text) → All P (flat_map columns_of (tables_in vars text)) → All P (flat_map columns_of (resets_in vars text))
      → All P (flat_map ends (flat_map (latches_on vars) text)) → All UsesAll text
  uses_by [] outputs tables resets latches = All-nil UsesAll
  uses_by (ModelLine names ∷ text) outputs tables resets latches = plain (ModelLine names) text refl (uses_by text outputs tables resets latches)
  uses_by (InputsLine names ∷ text) outputs tables resets latches = plain (InputsLine names) text refl (uses_by text outputs tables resets latches)
  uses_by (OutputsLine names ∷ text) outputs tables resets latches =
      All-cons UsesAll (OutputsLine names) text (All-map P (place_in vars) names (All-left Named names (flat_map outputs_on text) outputs))
      (uses_by text (All-right Named names (flat_map outputs_on text) outputs) tables resets latches)
  uses_by (DomainsLine names count values ∷ text) outputs tables resets latches = plain (DomainsLine names count values) text refl (uses_by text outputs tables resets latches)
  uses_by (TableLine ins outs ∷ text) outputs tables resets latches =
      let columns = places_in vars ins ++ places_in vars outs in
      All-cons UsesAll (TableLine ins outs) text (All-left P columns (flat_map columns_of (tables_in vars text)) tables)
      (uses_by text outputs (All-right P columns (flat_map columns_of (tables_in vars text)) tables) resets latches)
  uses_by (ResetLine ins outs ∷ text) outputs tables resets latches =
      let columns = places_in vars ins ++ places_in vars outs in
      All-cons UsesAll (ResetLine ins outs) text (All-left P columns (flat_map columns_of (resets_in vars text)) resets)
      (uses_by text outputs tables (All-right P columns (flat_map columns_of (resets_in vars text)) resets) latches)
  uses_by (LatchLine input output ∷ text) outputs tables resets latches =
      let both = place_in vars input ∷ place_in vars output ∷ [] in
      All-cons UsesAll (LatchLine input output) text (All-left P both (flat_map ends (flat_map (latches_on vars) text)) latches)
      (uses_by text outputs tables resets (All-right P both (flat_map ends (flat_map (latches_on vars) text)) latches))
  uses_by (DefaultLine words ∷ text) outputs tables resets latches = plain (DefaultLine words) text refl (uses_by text outputs tables resets latches)
  uses_by (EndLine ∷ text) outputs tables resets latches = plain EndLine text refl (uses_by text outputs tables resets latches)
  uses_by (RowLine words ∷ text) outputs tables resets latches = plain (RowLine words) text refl (uses_by text outputs tables resets latches)

  uses_each : (text : List Form) → All P (uses (net_with vars text)) → All UsesAll text
  uses_each text all =
      let net = net_with vars text in
      let tables = flat_map columns_of net.tables in
      let resets = flat_map columns_of net.resets in
      let latches = flat_map ends net.latches in
      let named = All-named vars P (distinct [] (flat_map outputs_on text)) (All-left P net.outputs (tables ++ (resets ++ latches)) all) in
      let rest = All-right P net.outputs (tables ++ (resets ++ latches)) all in
      let below = All-right P tables (resets ++ latches) rest in
      uses_by text (distinct_back [] (flat_map outputs_on text) named).1 (All-left P tables (resets ++ latches) rest) (All-left P resets latches below) (All-right P resets latches below)

-- each line of a reset table is one of the network's

module _ (vars : Scope) (known : Known) (net : Net) (of_varying : IsSetOf known.varying (Varies net)) (of_latches : known.latches ≡ latch_outputs net) where
  unmarked : (signal : ℕ) → IsConstant net signal → is_marked known.varying signal ≡ false
  unmarked signal constant = false_from_ne_true (is_marked known.varying signal) (λ marked. constant ((of_varying signal).0 marked))

  latched : (signal : ℕ) → Contains (latch_outputs net) signal → not (is_among known.latches signal) ≡ false
  latched signal there =
      not_from_true (is_among known.latches signal) (ap (λ signals. is_among signals signal) of_latches ∙ (Decides-member (latch_outputs net) signal).1 there)

  abbrev ResetsWell : Form → Type 0
  ResetsWell form = is_no_reset vars known.varying known.latches form ≡ false

  resets_by : (ins outs : List ℕ) (table : Table) → table.ins ≡ ins → table.outs ≡ outs → IsReset net table → (list_any (is_marked known.varying) ins || list_any (λ signal. not (is_among known.latches signal)) outs) ≡ false
  resets_by ins outs table ins_are outs_are is_reset =
      let P : ℕ → Type 0 = λ signal. is_marked known.varying signal ≡ false in
      let Q : ℕ → Type 0 = λ signal. not (is_among known.latches signal) ≡ false in
      or_from (list_any (is_marked known.varying) ins) (list_any (λ signal. not (is_among known.latches signal)) outs)
      (unfound (is_marked known.varying) ins (All-weaker (IsConstant net) P unmarked ins (subst (All (IsConstant net)) ins_are is_reset.inputs)))
      (unfound (λ signal. not (is_among known.latches signal)) outs (All-weaker (Contains (latch_outputs net)) Q latched outs (subst (All (Contains (latch_outputs net))) outs_are is_reset.outputs)))

  resets_each : (text : List Form) → All (IsReset net) (resets_in vars text) → All ResetsWell text
  resets_each [] all = All-nil ResetsWell
  resets_each (ModelLine names ∷ text) all = All-cons ResetsWell (ModelLine names) text refl (resets_each text all)
  resets_each (InputsLine names ∷ text) all = All-cons ResetsWell (InputsLine names) text refl (resets_each text all)
  resets_each (OutputsLine names ∷ text) all = All-cons ResetsWell (OutputsLine names) text refl (resets_each text all)
  resets_each (DomainsLine names count values ∷ text) all = All-cons ResetsWell (DomainsLine names count values) text refl (resets_each text all)
  resets_each (TableLine ins outs ∷ text) all = All-cons ResetsWell (TableLine ins outs) text refl (resets_each text all)
  resets_each (ResetLine ins outs ∷ text) all =
      All-cons ResetsWell (ResetLine ins outs) text (resets_by (places_in vars ins) (places_in vars outs) _ refl refl (All-head (IsReset net) _ (resets_in vars text) all))
      (resets_each text (All-tail (IsReset net) _ (resets_in vars text) all))
  resets_each (LatchLine input output ∷ text) all = All-cons ResetsWell (LatchLine input output) text refl (resets_each text all)
  resets_each (DefaultLine words ∷ text) all = All-cons ResetsWell (DefaultLine words) text refl (resets_each text all)
  resets_each (EndLine ∷ text) all = All-cons ResetsWell EndLine text refl (resets_each text all)
  resets_each (RowLine words ∷ text) all = All-cons ResetsWell (RowLine words) text refl (resets_each text all)

-- each line passes

untested : (names had acceptance : Bool) → acceptance ≡ true → (names && (not had && not acceptance)) ≡ false
untested names had false is = absurd (cc)
untested false had true is = refl
untested true false true is = refl
untested true true true is = refl

each_passes : (vars : Scope) (known : Known) (seen : Seen) (text : List Form) → IsOnce (seen.driven ++ flat_map (drives_on vars) text) → IsOnce (seen.reset ++ flat_map (sets_on vars) text)
    → All (λ form. is_undriven vars known.all form ≡ false) text → All (λ form. is_no_reset vars known.varying known.latches form ≡ false) text → known.acceptance ≡ true → AllPass vars known seen text
each_passes vars known seen [] once reset driven resets accepted = tt
each_passes vars known seen (form ∷ text) once reset driven resets accepted =
    let drives = flat_map (drives_on vars) text in
    let sets = flat_map (sets_on vars) text in
    let Driven : Form → Type 0 = λ line. is_undriven vars known.all line ≡ false in
    let Resets : Form → Type 0 = λ line. is_no_reset vars known.varying known.latches line ≡ false in
    let once_more : IsOnce ((seen.driven ++ drives_on vars form) ++ drives) = subst IsOnce (sym (append_assoc seen.driven (drives_on vars form) drives)) once in
    let reset_more : IsOnce ((seen.reset ++ sets_on vars form) ++ sets) = subst IsOnce (sym (append_assoc seen.reset (sets_on vars form) sets)) reset in (
      record {
        once = none_twice seen.driven (drives_on vars form) (once_front (seen.driven ++ drives_on vars form) drives once_more);
        reset_once = none_twice seen.reset (sets_on vars form) (once_front (seen.reset ++ sets_on vars form) sets reset_more);
        driven = All-head Driven form text driven;
        resets = All-head Resets form text resets;
        acceptance = untested (names_outputs form) seen.has_outputs known.acceptance accepted;
      },
      each_passes vars known (seen_behind vars seen form) text once_more reset_more (All-tail Driven form text driven) (All-tail Resets form text resets) accepted,
    )

-- lines that pass have no fault

passed : (vars : Scope) (known : Known) (seen : Seen) (form : Form) → Passes vars known seen form → kind_of_signals vars known seen form ≡ None
passed vars known seen form pass =
    λ i. if (pass.once i || pass.reset_once i) then Some DrivenTwice
    else (if pass.driven i then Some Undriven
    else (if pass.resets i then Some ResetNotConstant
    else (if pass.acceptance i then Some AccShape else None)))

no_fault_by : (vars : Scope) (known : Known) (seen : Seen) (line : ℕ) (said : Option Form) (lines : List LogicalLine) → ((next : Seen) → AllPass vars known next (filter_map said_by lines) → first_fault vars known next lines ≡ None)
    → AllPass vars known seen (cons_option said (filter_map said_by lines)) → fault_or (kind_said vars known seen said) line (first_fault vars known (seen_said vars seen said) lines) ≡ None
no_fault_by vars known seen line None lines below pass = below seen pass
no_fault_by vars known seen line (Some form) lines below pass =
    ap (λ kind. fault_or kind line (first_fault vars known (seen_behind vars seen form) lines)) (passed vars known seen form pass.0) ∙ below (seen_behind vars seen form) pass.1

no_fault : (vars : Scope) (known : Known) (seen : Seen) (lines : List LogicalLine) → AllPass vars known seen (filter_map said_by lines) → first_fault vars known seen lines ≡ None
no_fault vars known seen [] pass = refl
no_fault vars known seen (line ∷ lines) pass = no_fault_by vars known seen line.number (said_by line) lines (λ next. no_fault vars known next lines) pass

abbrev IsDriven : Net → ℕ → Type 0
IsDriven net signal = 0 < times_driven net signal

-- the lines of a network that meets the conditions
lines_pass : (net : Net) (text : List Form) (known : Known) → net ≡ net_with net.names text → IsKnown net text known → MeetsConditions net → AllPass net.names known nothing_seen text
lines_pass net text known said is_known meets =
    each_passes net.names known nothing_seen text once reset
    (All-weaker (UsesAll net.names (IsDriven net)) (λ form. is_undriven net.names known.all form ≡ false) uses_driven text
    (uses_each net.names (IsDriven net) text (subst (λ (n : Net). All (IsDriven net) (uses n)) said meets.driven)))
    (resets_each net.names known net is_known.varying is_known.latches text (subst (λ (n : Net). All (IsReset net) n.resets) said meets.resets))
    (is_known.acceptance.1 meets.acceptance)
  where
    times : (signal : ℕ) → times_driven net signal ≡ count_by (nat_eq signal) (flat_map (drives_on net.names) text)
    times signal = ap (λ n. times_driven n signal) said ∙ counted net.names text signal

    once : IsOnce (flat_map (drives_on net.names) text)
    once signal =
        let all = meets.once signal in
        let same = times signal in
        omega (arith, all, same)

    reset : IsOnce (flat_map (sets_on net.names) text)
    reset signal =
        let all = meets.reset_once signal in
        let same : count_by (nat_eq signal) (flat_map (λ table. table.outs) net.resets) ≡ count_by (nat_eq signal) (flat_map (sets_on net.names) text) =
        ap (λ n. count_by (nat_eq signal) (flat_map (λ table. table.outs) n.resets)) said ∙ ap (count_by (nat_eq signal)) (sets_of net.names text) in
        omega (arith, all, same)

    among : (signal : ℕ) → IsDriven net signal → not (is_among known.all signal) ≡ false
    among signal driven =
        let same : times_driven net signal ≡ count_by (nat_eq signal) known.all = times signal ∙ ap (count_by (nat_eq signal)) (sym is_known.all) in
        not_from_true (is_among known.all signal) ((Decides-counted (nat_eq signal) known.all).1 (omega (arith, driven, same)))

    uses_driven : (form : Form) → UsesAll net.names (IsDriven net) form → is_undriven net.names known.all form ≡ false
    uses_driven form all =
        unfound (λ signal. not (is_among known.all signal)) (uses_on net.names form)
        (All-weaker (IsDriven net) (λ signal. not (is_among known.all signal) ≡ false) among (uses_on net.names form) all)

-- no line has a fault exactly where the network meets the conditions
pub without_fault : (net : Net) (bytes : List ℕ) (known : Known) → net ≡ net_with net.names (text_in bytes) → IsKnown net (text_in bytes) known
    → All (λ latch. length (domain_at net.names latch.input) ≡ length (domain_at net.names latch.output)) net.latches → (signal_fault net known bytes ≡ None) ↔ MeetsConditions net
without_fault net bytes known said is_known sizes = (
  λ none. conditions_met net (text_in bytes) known said is_known (all_pass net.names known nothing_seen (logical_lines bytes) none) sizes,
  λ meets. no_fault net.names known nothing_seen (logical_lines bytes) (lines_pass net (text_in bytes) known said is_known meets),
)
