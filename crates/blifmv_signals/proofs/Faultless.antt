-- The network of a text whose lines have no fault meets the conditions.
use Rattle.std.proofs.Common.{◌≡◌, ◌≤◌, ◌<◌, ◌&&◌, ◌||◌, ◌⊎◌, inl, inr, ℕ, Bool, true, false, not, List, [], ◌∷◌, ◌++◌, length, nat_eq, count_by, All, Contains, if◌then◌else◌, IsTrue, Result, Ok, Err, OnOk, refl, sym, ◌∙◌, ap, subst, arith}
use Rattle.std.specs.List.{list_any, flat_map}
use Rattle.std.proofs.lemmas.Bool.{false≢true}
use Rattle.std.proofs.lemmas.List.Elements.{All-nil, All-cons, All-head, All-tail, All-append, All-map}
use Rattle.lex_core.specs.LogicalLines.{logical_lines}
use Rattle.net_model.specs.declared.text_fault.TextFault.{TextFault}
use Rattle.net_model.specs.Faults.{Finds}
use Rattle.name_table.specs.Variables.{is_in, with_name}
use Rattle.net_model.specs.Words.{Scope}
use Rattle.net_model.specs.Forms.{Name, Form, ModelLine, InputsLine, OutputsLine, DomainsLine, TableLine, ResetLine, LatchLine, DefaultLine, EndLine, RowLine}
use Rattle.net_model.specs.Nets.{Net, Table, Latch}
use Rattle.net_model.specs.NetTexts.{distinct, place_in, places_in, outputs_on, latches_on, tables_in, resets_in, net_with, text_in}
use Rattle.net_model.specs.Spellings.{domain_at}
use Rattle.net_model.specs.Conditions.{columns_of, uses, latch_outputs, times_driven, Varies, IsConstant, IsReset, MeetsConditions}
use Rattle.net_conditions.specs.Marks.{is_marked, IsSetOf}
use Rattle.net_model.proofs.Computed.{Decides-member}
use Rattle.net_conditions.proofs.Listed.{IsOnce, Decides-counted}
use Rattle.blifmv_signals.specs.SignalFaults.{drives_on, sets_on, uses_on, is_among, nothing_seen, seen_behind, Seen, Known, IsKnown, AcceptsRightly}
use Rattle.blifmv_signals.specs.declared.whole.Whole.{Whole}
use Rattle.blifmv_signals.specs.Marked.{nothing_above, marked_fault, IsWhole}
use Rattle.blifmv_signals.proofs.Agreeing.{fault_same}
use Rattle.blifmv_signals.proofs.Counted.{counted}
use Rattle.blifmv_signals.proofs.Passing.{AllPass, all_pass, neither, driven_once, reset_once}

-- where a search finds nothing each element has the fact
All-unfound : {X : Type 0} (p : X → Bool) (P : X → Type 0) → ((x : X) → p x ≡ false → P x) → (xs : List X) → list_any p xs ≡ false → All P xs
All-unfound p P each [] none = All-nil P
All-unfound p P each (x ∷ xs) none =
    let both = neither (p x) (list_any p xs) none in
    All-cons P x xs (each x both.0) (All-unfound p P each xs both.1)

pub All-left : {X : Type 0} (P : X → Type 0) (xs ys : List X) → All P (xs ++ ys) → All P xs
All-left P [] ys all = All-nil P
All-left P (x ∷ xs) ys all = All-cons P x xs (All-head P x (xs ++ ys) all) (All-left P xs ys (All-tail P x (xs ++ ys) all))

pub All-right : {X : Type 0} (P : X → Type 0) (xs ys : List X) → All P (xs ++ ys) → All P ys
All-right P [] ys all = all
All-right P (x ∷ xs) ys all = All-right P xs ys (All-tail P x (xs ++ ys) all)

-- what is used

used_lines : (vars : Scope) (known : Known) (P : ℕ → Type 0) → ((signal : ℕ) → not (is_among known.all signal) ≡ false → P signal) → (seen : Seen) (text : List Form) → AllPass vars known seen text → All P (flat_map (uses_on vars) text)
used_lines vars known P each seen [] pass = All-nil P
used_lines vars known P each seen (form ∷ text) pass =
    All-append P (uses_on vars form) (flat_map (uses_on vars) text)
    (All-unfound (λ signal. not (is_among known.all signal)) P each (uses_on vars form) pass.0.driven)
    (used_lines vars known P each (seen_behind vars seen form) text pass.1)

module _ (vars : Scope) (P : ℕ → Type 0) where
  abbrev Named : Name → Type 0
  Named name = P (place_in vars name)

  pub All-named : (names : List Name) → All P (places_in vars names) → All Named names
  All-named [] all = All-nil Named
  All-named (name ∷ names) all = All-cons Named name names (All-head P (place_in vars name) (places_in vars names) all) (All-named names (All-tail P (place_in vars name) (places_in vars names) all))

  with_name_by : (had : List Name) (name : Name) (there : Bool) → All Named had → Named name → All Named (if there then had else (had ++ name ∷ []))
  with_name_by had name true all here = all
  with_name_by had name false all here = All-append Named had (name ∷ []) all (All-cons Named name [] here (All-nil Named))

  All-distinct : (had names : List Name) → All Named had → All Named names → All Named (distinct had names)
  All-distinct had [] all more = all
  All-distinct had (name ∷ names) all more =
      All-distinct (with_name had name) names (with_name_by had name (is_in had name) all (All-head Named name names more)) (All-tail Named name names more)

  abbrev AllUsed : List Form → Type 0
  AllUsed text = All P (flat_map (uses_on vars) text)

  behind : (form : Form) (text : List Form) → AllUsed (form ∷ text) → AllUsed text
  behind form text all = All-right P (uses_on vars form) (flat_map (uses_on vars) text) all

  here : (form : Form) (text : List Form) → AllUsed (form ∷ text) → All P (uses_on vars form)
  here form text all = All-left P (uses_on vars form) (flat_map (uses_on vars) text) all

  used_outputs : (text : List Form) → AllUsed text → All Named (flat_map outputs_on text)
  used_outputs [] all = All-nil Named
  used_outputs (ModelLine names ∷ text) all = used_outputs text all
  used_outputs (InputsLine names ∷ text) all = used_outputs text all
  used_outputs (OutputsLine names ∷ text) all = All-append Named names (flat_map outputs_on text) (All-named names (here (OutputsLine names) text all)) (used_outputs text (behind (OutputsLine names) text all))
  used_outputs (DomainsLine names count values ∷ text) all = used_outputs text all
  used_outputs (TableLine ins outs ∷ text) all = used_outputs text (behind (TableLine ins outs) text all)
  used_outputs (ResetLine ins outs ∷ text) all = used_outputs text (behind (ResetLine ins outs) text all)
  used_outputs (LatchLine input output ∷ text) all = used_outputs text (behind (LatchLine input output) text all)
  used_outputs (DefaultLine words ∷ text) all = used_outputs text all
  used_outputs (EndLine ∷ text) all = used_outputs text all
  used_outputs (RowLine words ∷ text) all = used_outputs text all

  used_tables : (text : List Form) → AllUsed text → All P (flat_map columns_of (tables_in vars text))
  used_tables [] all = All-nil P
  used_tables (ModelLine names ∷ text) all = used_tables text all
  used_tables (InputsLine names ∷ text) all = used_tables text all
  used_tables (OutputsLine names ∷ text) all = used_tables text (behind (OutputsLine names) text all)
  used_tables (DomainsLine names count values ∷ text) all = used_tables text all
  used_tables (TableLine ins outs ∷ text) all =
      All-append P (places_in vars ins ++ places_in vars outs) (flat_map columns_of (tables_in vars text)) (here (TableLine ins outs) text all) (used_tables text (behind (TableLine ins outs) text all))
  used_tables (ResetLine ins outs ∷ text) all = used_tables text (behind (ResetLine ins outs) text all)
  used_tables (LatchLine input output ∷ text) all = used_tables text (behind (LatchLine input output) text all)
  used_tables (DefaultLine words ∷ text) all = used_tables text all
  used_tables (EndLine ∷ text) all = used_tables text all
  used_tables (RowLine words ∷ text) all = used_tables text all

  used_resets : (text : List Form) → AllUsed text → All P (flat_map columns_of (resets_in vars text))
  used_resets [] all = All-nil P
  used_resets (ModelLine names ∷ text) all = used_resets text all
  used_resets (InputsLine names ∷ text) all = used_resets text all
  used_resets (OutputsLine names ∷ text) all = used_resets text (behind (OutputsLine names) text all)
  used_resets (DomainsLine names count values ∷ text) all = used_resets text all
  used_resets (TableLine ins outs ∷ text) all = used_resets text (behind (TableLine ins outs) text all)
  used_resets (ResetLine ins outs ∷ text) all =
      All-append P (places_in vars ins ++ places_in vars outs) (flat_map columns_of (resets_in vars text)) (here (ResetLine ins outs) text all) (used_resets text (behind (ResetLine ins outs) text all))
  used_resets (LatchLine input output ∷ text) all = used_resets text (behind (LatchLine input output) text all)
  used_resets (DefaultLine words ∷ text) all = used_resets text all
  used_resets (EndLine ∷ text) all = used_resets text all
  used_resets (RowLine words ∷ text) all = used_resets text all

  abbrev ends : Latch → List ℕ
  ends latch = latch.input ∷ latch.output ∷ []

  used_latches : (text : List Form) → AllUsed text → All P (flat_map ends (flat_map (latches_on vars) text))
  used_latches [] all = All-nil P
  used_latches (ModelLine names ∷ text) all = used_latches text all
  used_latches (InputsLine names ∷ text) all = used_latches text all
  used_latches (OutputsLine names ∷ text) all = used_latches text (behind (OutputsLine names) text all)
  used_latches (DomainsLine names count values ∷ text) all = used_latches text all
  used_latches (TableLine ins outs ∷ text) all = used_latches text (behind (TableLine ins outs) text all)
  used_latches (ResetLine ins outs ∷ text) all = used_latches text (behind (ResetLine ins outs) text all)
  used_latches (LatchLine input output ∷ text) all =
      All-append P (place_in vars input ∷ place_in vars output ∷ []) (flat_map ends (flat_map (latches_on vars) text)) (here (LatchLine input output) text all) (used_latches text (behind (LatchLine input output) text all))
  used_latches (DefaultLine words ∷ text) all = used_latches text all
  used_latches (EndLine ∷ text) all = used_latches text all
  used_latches (RowLine words ∷ text) all = used_latches text all

  all_used : (text : List Form) → AllUsed text → All P (uses (net_with vars text))
  all_used text all =
      let net = net_with vars text in
      All-append P net.outputs _
      (All-map P (place_in vars) (distinct [] (flat_map outputs_on text)) (All-distinct [] (flat_map outputs_on text) (All-nil Named) (used_outputs text all)))
      (All-append P (flat_map columns_of net.tables) _ (used_tables text all)
      (All-append P (flat_map columns_of net.resets) _ (used_resets text all) (used_latches text all)))

-- resets

pub sets_of : (vars : Scope) (text : List Form) → flat_map (λ table. table.outs) (resets_in vars text) ≡ flat_map (sets_on vars) text
sets_of vars [] = refl
sets_of vars (ModelLine names ∷ text) = sets_of vars text
sets_of vars (InputsLine names ∷ text) = sets_of vars text
sets_of vars (OutputsLine names ∷ text) = sets_of vars text
sets_of vars (DomainsLine names count values ∷ text) = sets_of vars text
sets_of vars (TableLine ins outs ∷ text) = sets_of vars text
sets_of vars (ResetLine ins outs ∷ text) = ap (λ more. places_in vars outs ++ more) (sets_of vars text)
sets_of vars (LatchLine input output ∷ text) = sets_of vars text
sets_of vars (DefaultLine words ∷ text) = sets_of vars text
sets_of vars (EndLine ∷ text) = sets_of vars text
sets_of vars (RowLine words ∷ text) = sets_of vars text

not_false : (b : Bool) → not b ≡ false → b ≡ true
not_false true is = refl
not_false false is = sym is

module _ (vars : Scope) (known : Known) (net : Net) (of_varying : IsSetOf known.varying (Varies net)) (of_latches : known.latches ≡ latch_outputs net) where
  is_constant : (signal : ℕ) → is_marked known.varying signal ≡ false → IsConstant net signal
  is_constant signal unmarked = λ varies. false≢true (sym unmarked ∙ (of_varying signal).1 varies)

  is_latch : (signal : ℕ) → not (is_among known.latches signal) ≡ false → Contains (latch_outputs net) signal
  is_latch signal among =
      (Decides-member (latch_outputs net) signal).0 (ap (λ signals. is_among signals signal) (sym of_latches) ∙ not_false (is_among known.latches signal) among)

  reset_by : (ins outs : List ℕ) (table : Table) → table.ins ≡ ins → table.outs ≡ outs → (list_any (is_marked known.varying) ins || list_any (λ signal. not (is_among known.latches signal)) outs) ≡ false → IsReset net table
  reset_by ins outs table ins_are outs_are none =
      let both = neither (list_any (is_marked known.varying) ins) (list_any (λ signal. not (is_among known.latches signal)) outs) none in record {
        inputs = subst (All (IsConstant net)) (sym ins_are) (All-unfound (is_marked known.varying) (IsConstant net) is_constant ins both.0);
        outputs = subst (All (Contains (latch_outputs net))) (sym outs_are) (All-unfound (λ signal. not (is_among known.latches signal)) (Contains (latch_outputs net)) is_latch outs both.1);
      }

  all_resets : (seen : Seen) (text : List Form) → AllPass vars known seen text → All (IsReset net) (resets_in vars text)
  all_resets seen [] pass = All-nil (IsReset net)
  all_resets seen (ModelLine names ∷ text) pass = all_resets (seen_behind vars seen (ModelLine names)) text pass.1
  all_resets seen (InputsLine names ∷ text) pass = all_resets (seen_behind vars seen (InputsLine names)) text pass.1
  all_resets seen (OutputsLine names ∷ text) pass = all_resets (seen_behind vars seen (OutputsLine names)) text pass.1
  all_resets seen (DomainsLine names count values ∷ text) pass = all_resets (seen_behind vars seen (DomainsLine names count values)) text pass.1
  all_resets seen (TableLine ins outs ∷ text) pass = all_resets (seen_behind vars seen (TableLine ins outs)) text pass.1
  all_resets seen (ResetLine ins outs ∷ text) pass =
      All-cons (IsReset net) _ (resets_in vars text) (reset_by (places_in vars ins) (places_in vars outs) _ refl refl pass.0.resets)
      (all_resets (seen_behind vars seen (ResetLine ins outs)) text pass.1)
  all_resets seen (LatchLine input output ∷ text) pass = all_resets (seen_behind vars seen (LatchLine input output)) text pass.1
  all_resets seen (DefaultLine words ∷ text) pass = all_resets (seen_behind vars seen (DefaultLine words)) text pass.1
  all_resets seen (EndLine ∷ text) pass = all_resets (seen_behind vars seen EndLine) text pass.1
  all_resets seen (RowLine words ∷ text) pass = all_resets (seen_behind vars seen (RowLine words)) text pass.1

-- acceptance

or_false : (b : Bool) → b ≡ false → (b || false) ≡ false
or_false true is = is
or_false false is = refl

tested_first : (had acceptance : Bool) → had ≡ false → (not had && not acceptance) ≡ false → acceptance ≡ true
tested_first true acceptance is none = absurd (cc)
tested_first false true is none = refl
tested_first false false is none = absurd (cc)

-- the first line of outputs has tested the condition, unless there is none
acceptance_tested : (vars : Scope) (known : Known) (seen : Seen) (text : List Form) → seen.has_outputs ≡ false → AllPass vars known seen text → (known.acceptance ≡ true) ⊎ (flat_map outputs_on text ≡ [])
acceptance_tested vars known seen [] none pass = inr refl
acceptance_tested vars known seen (ModelLine names ∷ text) none pass = acceptance_tested vars known (seen_behind vars seen (ModelLine names)) text (or_false seen.has_outputs none) pass.1
acceptance_tested vars known seen (InputsLine names ∷ text) none pass = acceptance_tested vars known (seen_behind vars seen (InputsLine names)) text (or_false seen.has_outputs none) pass.1
acceptance_tested vars known seen (OutputsLine names ∷ text) none pass = inl (tested_first seen.has_outputs known.acceptance none pass.0.acceptance)
acceptance_tested vars known seen (DomainsLine names count values ∷ text) none pass = acceptance_tested vars known (seen_behind vars seen (DomainsLine names count values)) text (or_false seen.has_outputs none) pass.1
acceptance_tested vars known seen (TableLine ins outs ∷ text) none pass = acceptance_tested vars known (seen_behind vars seen (TableLine ins outs)) text (or_false seen.has_outputs none) pass.1
acceptance_tested vars known seen (ResetLine ins outs ∷ text) none pass = acceptance_tested vars known (seen_behind vars seen (ResetLine ins outs)) text (or_false seen.has_outputs none) pass.1
acceptance_tested vars known seen (LatchLine input output ∷ text) none pass = acceptance_tested vars known (seen_behind vars seen (LatchLine input output)) text (or_false seen.has_outputs none) pass.1
acceptance_tested vars known seen (DefaultLine words ∷ text) none pass = acceptance_tested vars known (seen_behind vars seen (DefaultLine words)) text (or_false seen.has_outputs none) pass.1
acceptance_tested vars known seen (EndLine ∷ text) none pass = acceptance_tested vars known (seen_behind vars seen EndLine) text (or_false seen.has_outputs none) pass.1
acceptance_tested vars known seen (RowLine words ∷ text) none pass = acceptance_tested vars known (seen_behind vars seen (RowLine words)) text (or_false seen.has_outputs none) pass.1

accepts : (net : Net) (text : List Form) (known : Known) → net ≡ net_with net.names text → (known.acceptance ≡ true) ⊎ (flat_map outputs_on text ≡ []) → (IsTrue known.acceptance → AcceptsRightly net) → AcceptsRightly net
accepts net text known said (inl tested) rightly = rightly tested
accepts net text known said (inr none) rightly = λ signal automaton.
    let outputs : places_in net.names (distinct [] (flat_map outputs_on text)) ≡ signal ∷ [] = ap (λ n. n.outputs) (sym said) ∙ automaton.0 in
    let empty : [] ≡ signal ∷ [] = ap (λ names. places_in net.names (distinct [] names)) (sym none) ∙ outputs in
    absurd (cc)

none_once : IsOnce []
none_once signal = omega arith

pub conditions_met : (net : Net) (text : List Form) (known : Known) → net ≡ net_with net.names text → IsKnown net text known → AllPass net.names known nothing_seen text
    → All (λ latch. length (domain_at net.names latch.input) ≡ length (domain_at net.names latch.output)) net.latches → MeetsConditions net
conditions_met net text known said is_known pass sizes =
    let vars : Scope = net.names in
    let P : ℕ → Type 0 = λ signal. 0 < times_driven net signal in
    record {
      once = once;
      driven = subst (λ (n : Net). All P (uses n)) (sym said) (all_used vars P text (used_lines vars known P is_driven nothing_seen text pass));
      latches = sizes;
      reset_once = reset;
      resets = subst (λ (tables : List Table). All (IsReset net) tables) (ap (λ n. n.resets) (sym said)) (all_resets vars known net is_known.varying is_known.latches nothing_seen text pass);
      acceptance = accepts net text known said (acceptance_tested vars known nothing_seen text refl pass) is_known.acceptance.0;
    }
  where
    times : (signal : ℕ) → times_driven net signal ≡ count_by (nat_eq signal) (flat_map (drives_on net.names) text)
    times signal = ap (λ n. times_driven n signal) said ∙ counted net.names text signal

    once : (signal : ℕ) → times_driven net signal ≤ 1
    once signal =
        let all = driven_once net.names known nothing_seen text pass none_once signal in
        let same = times signal in
        omega (arith, all, same)

    is_driven : (signal : ℕ) → not (is_among known.all signal) ≡ false → 0 < times_driven net signal
    is_driven signal among =
        let some = (Decides-counted (nat_eq signal) known.all).0 (not_false (is_among known.all signal) among) in
        let same : times_driven net signal ≡ count_by (nat_eq signal) known.all = times signal ∙ ap (count_by (nat_eq signal)) (sym is_known.all) in
        omega (arith, some, same)

    reset : (signal : ℕ) → count_by (nat_eq signal) (flat_map (λ table. table.outs) net.resets) ≤ 1
    reset signal =
        let all = reset_once net.names known nothing_seen text pass none_once signal in
        let same : count_by (nat_eq signal) (flat_map (λ table. table.outs) net.resets) ≡ count_by (nat_eq signal) (flat_map (sets_on net.names) text) =
        ap (λ n. count_by (nat_eq signal) (flat_map (λ table. table.outs) n.resets)) said ∙ ap (count_by (nat_eq signal)) (sets_of net.names text) in
        omega (arith, all, same)

-- what is known of a network by its marks
abbrev known_by : (net : Net) (text : List Form) (whole : Whole) → Known
known_by net text whole = record { all = flat_map (drives_on net.names) text; varying = whole.varying; latches = latch_outputs net; acceptance = whole.acceptance }

is_known_by : (net : Net) (text : List Form) (whole : Whole) → IsWhole net whole → IsKnown net text (known_by net text whole)
is_known_by net text whole is_whole = record { all = refl; varying = is_whole.varying; latches = refl; acceptance = is_whole.acceptance }

-- where no line has a fault, the network meets the conditions
pub met_by : {T : Type 0} (net : Net) (bytes : List ℕ) (whole : Whole) (answer : Result T TextFault) → net ≡ net_with net.names (text_in bytes) → IsWhole net whole
    → All (λ latch. length (domain_at net.names latch.input) ≡ length (domain_at net.names latch.output)) net.latches
    → Finds answer (marked_fault net.names whole (nothing_above net.names) (logical_lines bytes)) → OnOk answer (MeetsConditions net)
met_by net bytes whole (Err e) said is_whole sizes finds = tt
met_by net bytes whole (Ok x) said is_whole sizes finds =
    let text : List Form = text_in bytes in
    let known : Known = known_by net text whole in
    let is_known = is_known_by net text whole is_whole in
    let none = sym (fault_same net text known whole (logical_lines bytes) said is_known is_whole) ∙ finds in
    conditions_met net text known said is_known (all_pass net.names known nothing_seen (logical_lines bytes) none) sizes
