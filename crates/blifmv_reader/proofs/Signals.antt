-- Each signal of a text's network has a name.
use Rattle.std.proofs.Common.{◌≡◌, ◌<◌, ◌≤◌, ◌++◌, ℕ, true, false, List, [], ◌∷◌, length, map, nat_eq, count_by, Some, None, unwrap_or, if◌then◌else◌, refl, sym, ◌∙◌, ap, subst}
use Rattle.std.specs.List.{All, AllByRecursion, flat_map}
use Rattle.std.proofs.lemmas.Bool.{false≢true}
use Rattle.std.proofs.lemmas.List.{length-map}
use Rattle.std.proofs.lemmas.List.Elements.{All-nil, All-cons, All-append}
use Rattle.std.proofs.lemmas.Option.{slice_get_within}
use Rattle.name_table.specs.Variables.{Variable, IsTable, names_of, is_in, place_of, with_name, are_different}
use Rattle.name_table.proofs.Apart.{different_with}
use Rattle.name_table.proofs.Found.{absent, present}
use Rattle.net_model.specs.Words.{Scope}
use Rattle.net_model.specs.Forms.{Name, Form, ModelLine, InputsLine, OutputsLine, DomainsLine, TableLine, ResetLine, LatchLine, DefaultLine, EndLine, RowLine}
use Rattle.net_model.specs.Nets.{Table, Latch}
use Rattle.net_model.specs.Conditions.{columns_of}
use Rattle.net_model.specs.NetTexts.{mentions, distinct, names_in, domain_in, variables_in, place_in, places_in, inputs_on, outputs_on, latches_on, tables_on, resets_on, tables_in, resets_in, net_with}
use Rattle.net_model.specs.SoundNets.{HasKnownSignals}
use Rattle.blifmv_names.proofs.Gathered.{AreThere, all_there}
use Rattle.blifmv_reader.proofs.OutputsOnce.{counted_once}

-- names among others

there_front : (had names more : List Name) → AreThere had (names ++ more) → AreThere had names
there_front had [] more h = tt
there_front had (name ∷ names) more h = (h.0, there_front had names more h.1)

there_rest : (had names more : List Name) → AreThere had (names ++ more) → AreThere had more
there_rest had [] more h = h
there_rest had (name ∷ names) more h = there_rest had names more h.1

there_append : (had names more : List Name) → AreThere had names → AreThere had more → AreThere had (names ++ more)
there_append had [] more h k = k
there_append had (name ∷ names) more h k = (h.0, there_append had names more h.1 k)

there_distinct : (had acc names : List Name) → AreThere had acc → AreThere had names → AreThere had (distinct acc names)
there_distinct had acc [] h k = h
there_distinct had acc (name ∷ names) h k = there_distinct had (with_name acc name) names (there_with acc name h k.0) k.1
  where
    there_with : (acc : List Name) (name : Name) → AreThere had acc → is_in had name ≡ true → AreThere had (with_name acc name)
    there_with acc name h is =
        elim (is_in acc name) as (λ b. AreThere had (if b then acc else acc ++ name ∷ [])) [
          | true ↦ h
          | false ↦ there_append had acc (name ∷ []) h (is, tt)
        ]

-- places

place_known : (vars : Scope) (name : Name) → is_in (names_of vars) name ≡ true → place_in vars name < length vars
place_known vars name there =
    elim (place_of (names_of vars) name) as (λ o. place_of (names_of vars) name ≡ o → unwrap_or o 0 < length vars) [
      | None ↦ λ is. absurd (false≢true (sym (absent (names_of vars) name is) ∙ there))
      | Some k ↦ λ is. subst (λ (n : ℕ). k < n) (length-map vars (λ v. v.name)) (slice_get_within (names_of vars) k name (present (names_of vars) name k is))
    ] refl

places_known : (vars : Scope) (names : List Name) → AreThere (names_of vars) names → All (λ signal. signal < length vars) (places_in vars names)
places_known vars [] h = All-nil (λ signal. signal < length vars)
places_known vars (name ∷ names) h = All-cons (λ signal. signal < length vars) (place_in vars name) (places_in vars names) (place_known vars name h.0) (places_known vars names h.1)

-- what each line mentions

inputs_there : (had : List Name) (form : Form) → AreThere had (mentions form) → AreThere had (inputs_on form)
inputs_there had (ModelLine names) h = tt
inputs_there had (InputsLine names) h = h
inputs_there had (OutputsLine names) h = tt
inputs_there had (DomainsLine names count values) h = tt
inputs_there had (TableLine ins outs) h = tt
inputs_there had (ResetLine ins outs) h = tt
inputs_there had (LatchLine input output) h = tt
inputs_there had (DefaultLine words) h = tt
inputs_there had EndLine h = tt
inputs_there had (RowLine words) h = tt

outputs_there : (had : List Name) (form : Form) → AreThere had (mentions form) → AreThere had (outputs_on form)
outputs_there had (ModelLine names) h = tt
outputs_there had (InputsLine names) h = tt
outputs_there had (OutputsLine names) h = h
outputs_there had (DomainsLine names count values) h = tt
outputs_there had (TableLine ins outs) h = tt
outputs_there had (ResetLine ins outs) h = tt
outputs_there had (LatchLine input output) h = tt
outputs_there had (DefaultLine words) h = tt
outputs_there had EndLine h = tt
outputs_there had (RowLine words) h = tt

all_inputs : (had : List Name) (text : List Form) → AreThere had (flat_map mentions text) → AreThere had (flat_map inputs_on text)
all_inputs had [] h = tt
all_inputs had (form ∷ text) h =
    there_append had (inputs_on form) (flat_map inputs_on text) (inputs_there had form (there_front had (mentions form) (flat_map mentions text) h))
    (all_inputs had text (there_rest had (mentions form) (flat_map mentions text) h))

all_outputs : (had : List Name) (text : List Form) → AreThere had (flat_map mentions text) → AreThere had (flat_map outputs_on text)
all_outputs had [] h = tt
all_outputs had (form ∷ text) h =
    there_append had (outputs_on form) (flat_map outputs_on text) (outputs_there had form (there_front had (mentions form) (flat_map mentions text) h))
    (all_outputs had text (there_rest had (mentions form) (flat_map mentions text) h))

abbrev KnownTable : Scope → Table → Type 0
KnownTable vars table = All (λ signal. signal < length vars) (columns_of table)

abbrev KnownLatch : Scope → Latch → Type 0
KnownLatch vars latch = All (λ signal. signal < length vars) (latch.input ∷ latch.output ∷ [])

columns_known : (vars : Scope) (ins outs : List Name) → AreThere (names_of vars) (ins ++ outs) → All (λ signal. signal < length vars) (places_in vars ins ++ places_in vars outs)
columns_known vars ins outs h =
    All-append (λ signal. signal < length vars) (places_in vars ins) (places_in vars outs)
    (places_known vars ins (there_front (names_of vars) ins outs h)) (places_known vars outs (there_rest (names_of vars) ins outs h))

one : {X : Type 0} (P : X → Type 0) (x : X) → P x → All P (x ∷ [])
one P x h = All-cons P x [] h (All-nil P)

tables_known : (vars : Scope) (form : Form) (under : List Form) → AreThere (names_of vars) (mentions form) → All (KnownTable vars) (tables_on vars form under)
tables_known vars (ModelLine names) under h = All-nil (KnownTable vars)
tables_known vars (InputsLine names) under h = All-nil (KnownTable vars)
tables_known vars (OutputsLine names) under h = All-nil (KnownTable vars)
tables_known vars (DomainsLine names count values) under h = All-nil (KnownTable vars)
tables_known vars (TableLine ins outs) under h = one (KnownTable vars) _ (columns_known vars ins outs h)
tables_known vars (ResetLine ins outs) under h = All-nil (KnownTable vars)
tables_known vars (LatchLine input output) under h = All-nil (KnownTable vars)
tables_known vars (DefaultLine words) under h = All-nil (KnownTable vars)
tables_known vars EndLine under h = All-nil (KnownTable vars)
tables_known vars (RowLine words) under h = All-nil (KnownTable vars)

resets_known : (vars : Scope) (form : Form) (under : List Form) → AreThere (names_of vars) (mentions form) → All (KnownTable vars) (resets_on vars form under)
resets_known vars (ModelLine names) under h = All-nil (KnownTable vars)
resets_known vars (InputsLine names) under h = All-nil (KnownTable vars)
resets_known vars (OutputsLine names) under h = All-nil (KnownTable vars)
resets_known vars (DomainsLine names count values) under h = All-nil (KnownTable vars)
resets_known vars (TableLine ins outs) under h = All-nil (KnownTable vars)
resets_known vars (ResetLine ins outs) under h = one (KnownTable vars) _ (columns_known vars ins outs h)
resets_known vars (LatchLine input output) under h = All-nil (KnownTable vars)
resets_known vars (DefaultLine words) under h = All-nil (KnownTable vars)
resets_known vars EndLine under h = All-nil (KnownTable vars)
resets_known vars (RowLine words) under h = All-nil (KnownTable vars)

latches_known : (vars : Scope) (form : Form) → AreThere (names_of vars) (mentions form) → All (KnownLatch vars) (latches_on vars form)
latches_known vars (ModelLine names) h = All-nil (KnownLatch vars)
latches_known vars (InputsLine names) h = All-nil (KnownLatch vars)
latches_known vars (OutputsLine names) h = All-nil (KnownLatch vars)
latches_known vars (DomainsLine names count values) h = All-nil (KnownLatch vars)
latches_known vars (TableLine ins outs) h = All-nil (KnownLatch vars)
latches_known vars (ResetLine ins outs) h = All-nil (KnownLatch vars)
latches_known vars (LatchLine input output) h = one (KnownLatch vars) _ (places_known vars (input ∷ output ∷ []) h)
latches_known vars (DefaultLine words) h = All-nil (KnownLatch vars)
latches_known vars EndLine h = All-nil (KnownLatch vars)
latches_known vars (RowLine words) h = All-nil (KnownLatch vars)

all_tables : (vars : Scope) (text : List Form) → AreThere (names_of vars) (flat_map mentions text) → All (KnownTable vars) (tables_in vars text)
all_tables vars [] h = All-nil (KnownTable vars)
all_tables vars (form ∷ text) h =
    All-append (KnownTable vars) (tables_on vars form text) (tables_in vars text) (tables_known vars form text (there_front (names_of vars) (mentions form) (flat_map mentions text) h))
    (all_tables vars text (there_rest (names_of vars) (mentions form) (flat_map mentions text) h))

all_resets : (vars : Scope) (text : List Form) → AreThere (names_of vars) (flat_map mentions text) → All (KnownTable vars) (resets_in vars text)
all_resets vars [] h = All-nil (KnownTable vars)
all_resets vars (form ∷ text) h =
    All-append (KnownTable vars) (resets_on vars form text) (resets_in vars text) (resets_known vars form text (there_front (names_of vars) (mentions form) (flat_map mentions text) h))
    (all_resets vars text (there_rest (names_of vars) (mentions form) (flat_map mentions text) h))

all_latches : (vars : Scope) (text : List Form) → AreThere (names_of vars) (flat_map mentions text) → All (KnownLatch vars) (flat_map (latches_on vars) text)
all_latches vars [] h = All-nil (KnownLatch vars)
all_latches vars (form ∷ text) h =
    All-append (KnownLatch vars) (latches_on vars form) (flat_map (latches_on vars) text) (latches_known vars form (there_front (names_of vars) (mentions form) (flat_map mentions text) h))
    (all_latches vars text (there_rest (names_of vars) (mentions form) (flat_map mentions text) h))

names_of_variables : (domain : Name → List Name) (names : List Name) → names_of (map (λ name. record { name = name; values = domain name }) names) ≡ names
names_of_variables domain [] = refl
names_of_variables domain (name ∷ names) = ap (λ more. name ∷ more) (names_of_variables domain names)

there_in : (text : List Form) → AreThere (names_of (variables_in text)) (flat_map mentions text)
there_in text = subst (λ (names : List Name). AreThere names (flat_map mentions text)) (sym (names_of_variables (domain_in text) (names_in text))) (all_there [] (flat_map mentions text))

distinct_differ : (had names : List Name) → are_different had ≡ true → are_different (distinct had names) ≡ true
distinct_differ had [] h = h
distinct_differ had (name ∷ names) h = distinct_differ (with_name had name) names (different_with had name h)

-- a text's names, where they are few and have few values, are a table
pub table_said : (text : List Form) (vars : Scope) → vars ≡ variables_in text → length vars ≤ 4096 → AllByRecursion (λ (v : Variable). length v.values ≤ 65536) (variables_in text) → IsTable vars
table_said text vars is few small = record {
  few = few;
  different = subst (λ (names : List Name). are_different names ≡ true) (sym (ap names_of is ∙ names_of_variables (domain_in text) (names_in text))) (distinct_differ [] (flat_map mentions text) refl);
  small = subst (λ (v : Scope). AllByRecursion (λ (v : Variable). length v.values ≤ 65536) v) (sym is) small;
}

-- each signal of the network that a text says has a name
pub known_signals : (text : List Form) → IsTable (variables_in text) → HasKnownSignals (net_with (variables_in text) text)
known_signals text table =
    let vars = variables_in text in
    let there = there_in text in
    record {
      names = table;
      inputs = places_known vars (flat_map inputs_on text) (all_inputs (names_of vars) text there);
      outputs = places_known vars (distinct [] (flat_map outputs_on text)) (there_distinct (names_of vars) [] (flat_map outputs_on text) tt (all_outputs (names_of vars) text there));
      tables = all_tables vars text there;
      latches = all_latches vars text there;
      resets = all_resets vars text there;
    }

-- and each output stands once among its outputs
pub outputs_once : (text : List Form) (signal : ℕ) → count_by (nat_eq signal) (places_in (variables_in text) (distinct [] (flat_map outputs_on text))) ≤ 1
outputs_once text signal =
    let vars = variables_in text in
    counted_once vars (distinct [] (flat_map outputs_on text)) signal
    (there_distinct (names_of vars) [] (flat_map outputs_on text) tt (all_outputs (names_of vars) text (there_in text)))
    (distinct_differ [] (flat_map outputs_on text) refl)
