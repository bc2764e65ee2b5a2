-- What words spell are entries of their columns.
use Rattle.std.proofs.Common.{◌≡◌, ◌<◌, ◌==◌, ℕ, true, false, List, [], ◌∷◌, length, map, Option, Some, None, if◌then◌else◌, eqb-true, refl, sym, ◌∙◌, ap, subst}
use Rattle.std.specs.Prelude.{nat_eq, slice_index}
use Rattle.std.specs.Option.{option_map}
use Rattle.std.specs.List.{All, AllZip}
use Rattle.std.proofs.lemmas.List.{get_or-map, length-map}
use Rattle.std.proofs.lemmas.List.Elements.{All-nil, All-cons}
use Rattle.std.proofs.lemmas.List.Quantifiers.{position-Some}
use Rattle.std.proofs.lemmas.Option.{slice_get_within}
use Rattle.name_table.specs.Variables.{names_of, place_of}
use Rattle.name_table.proofs.Found.{present}
use Rattle.net_model.specs.Words.{Scope}
use Rattle.net_model.specs.Forms.{Name}
use Rattle.net_model.specs.Nets.{Entry, Any, Value, OneOf, NotOneOf, Equal, Row}
use Rattle.net_model.specs.Spellings.{Spelled, Dash, One, Listed, NotThis, NotListed, Same, Taken, domain_at, with_value, values_of, input_entry, output_entry, equal_to, column_of, entry_at, with_entry, column_then, as_taken, entries_at, inputs_at, outputs_at, whole, row_behind, row_spelled, default_spelled}
use Rattle.net_model.specs.SoundNets.{IsInputEntry, IsOutputEntry, IsRowOf}

-- values

value_within : (domain : List Name) (name : Name) (value : ℕ) → place_of domain name ≡ Some value → value < length domain
value_within domain name value h = slice_get_within domain value name (present domain name value h)

values_within : (domain names : List Name) (values : List ℕ) → values_of domain names ≡ Some values → All (λ value. value < length domain) values
values_within domain [] values h = let is : [] ≡ values = cc in subst (All (λ value. value < length domain)) is (All-nil (λ value. value < length domain))
values_within domain (name ∷ names) values h =
    elim (place_of domain name) as (λ o. place_of domain name ≡ o → with_value o (values_of domain names) ≡ Some values → All (λ value. value < length domain) values) [
      | None ↦ λ at e. cc
      | Some value ↦ λ at e.
          elim (values_of domain names) as (λ o. values_of domain names ≡ o → option_map (λ vs. value ∷ vs) o ≡ Some values → All (λ value. value < length domain) values) [
            | None ↦ λ is f. cc
            | Some more ↦ λ is f.
                let whole : value ∷ more ≡ values = cc in
                subst (All (λ value. value < length domain)) whole (All-cons (λ value. value < length domain) value more (value_within domain name value at) (values_within domain names more is))
          ] refl e
    ] refl h

-- entries

through : {X : Type 0} (f : X → Entry) (P : Entry → Type 0) (o : Option X) (e : Entry) → ((x : X) → o ≡ Some x → P (f x)) → option_map f o ≡ Some e → P e
through f P None e h is = cc
through f P (Some x) e h is = let same : f x ≡ e = cc in subst P same (h x refl)

input_within : (domain : List Name) (spelled : Spelled) (e : Entry) → input_entry domain spelled ≡ Some e → IsInputEntry (length domain) e
input_within domain Dash e h = let is : Any ≡ e = cc in subst (IsInputEntry (length domain)) is tt
input_within domain (One name) e h = through Value (IsInputEntry (length domain)) (place_of domain name) e (λ v at. value_within domain name v at) h
input_within domain (Listed names) e h = through OneOf (IsInputEntry (length domain)) (values_of domain names) e (λ vs at. values_within domain names vs at) h
input_within domain (NotThis name) e h = through (λ v. NotOneOf (v ∷ [])) (IsInputEntry (length domain)) (place_of domain name) e (λ v at. All-cons (λ value. value < length domain) v [] (value_within domain name v at) (All-nil (λ value. value < length domain))) h
input_within domain (NotListed names) e h = through NotOneOf (IsInputEntry (length domain)) (values_of domain names) e (λ vs at. values_within domain names vs at) h
input_within domain (Same name) e h = cc

-- an entry of an input may stand in an output too
as_output : (ins : List ℕ) (size : ℕ) (e : Entry) → IsInputEntry size e → IsOutputEntry ins size e
as_output ins size Any h = h
as_output ins size (Value v) h = h
as_output ins size (OneOf vs) h = h
as_output ins size (NotOneOf vs) h = h
as_output ins size (Equal c) h = absurd h

abbrev pub sizes_in : Scope → List ℕ → List ℕ
sizes_in vars signals = map (λ signal. length (domain_at vars signal)) signals

equal_within : (vars : Scope) (ins : List ℕ) (domain : List Name) (column : Option ℕ) (e : Entry) → ((c : ℕ) → column ≡ Some c → c < length ins) → equal_to vars ins domain column ≡ Some e → IsOutputEntry (sizes_in vars ins) (length domain) e
equal_within vars ins domain None e within h = cc
equal_within vars ins domain (Some c) e within h =
    let below : c < length ins = within c refl in
    elim (length (domain_at vars (slice_index ins c)) == length domain) as (λ b. (length (domain_at vars (slice_index ins c)) == length domain) ≡ b → (if b then Some (Equal c) else None) ≡ Some e → IsOutputEntry (sizes_in vars ins) (length domain) e) [
      | true ↦ λ is f.
          let same : Equal c ≡ e = cc in
          let size : slice_index (sizes_in vars ins) c ≡ length domain = get_or-map (λ signal. length (domain_at vars signal)) ins c 0 0 below ∙ eqb-true _ _ is in
          subst (IsOutputEntry (sizes_in vars ins) (length domain)) same (subst (λ (n : ℕ). c < n) (sym (length-map ins (λ signal. length (domain_at vars signal)))) below, size)
      | false ↦ λ is f. cc
    ] refl h

column_within : (ins : List ℕ) (signal : Option ℕ) (c : ℕ) → column_of ins signal ≡ Some c → c < length ins
column_within ins None c h = cc
column_within ins (Some signal) c h = (position-Some (nat_eq signal) ins c 0 h).0

output_within : (vars : Scope) (ins : List ℕ) (domain : List Name) (spelled : Spelled) (e : Entry) → output_entry vars ins domain spelled ≡ Some e → IsOutputEntry (sizes_in vars ins) (length domain) e
output_within vars ins domain Dash e h = as_output (sizes_in vars ins) (length domain) e (input_within domain Dash e h)
output_within vars ins domain (One name) e h = as_output (sizes_in vars ins) (length domain) e (input_within domain (One name) e h)
output_within vars ins domain (Listed names) e h = as_output (sizes_in vars ins) (length domain) e (input_within domain (Listed names) e h)
output_within vars ins domain (NotThis name) e h = as_output (sizes_in vars ins) (length domain) e (input_within domain (NotThis name) e h)
output_within vars ins domain (NotListed names) e h = as_output (sizes_in vars ins) (length domain) e (input_within domain (NotListed names) e h)
output_within vars ins domain (Same name) e h =
    equal_within vars ins domain (column_of ins (place_of (names_of vars) name)) e (λ c at. column_within ins (place_of (names_of vars) name) c at) h

-- columns

abbrev taken_with : List Entry → List Name → Taken (List Entry)
taken_with entries rest = record { taken = entries; rest = rest }

taken_is : (entries : List Entry) (rest : List Name) (others : List Entry) (rest' : List Name) → Some (taken_with entries rest) ≡ Some (taken_with others rest') → entries ≡ others
taken_is entries rest others rest' h = let same : taken_with entries rest ≡ taken_with others rest' = cc in ap (λ (t : Taken (List Entry)). t.taken) same

entries_within : (resolve : ℕ → Spelled → Option Entry) (size : ℕ → ℕ) (P : ℕ → Entry → Type 0) → ((column : ℕ) (s : Spelled) (e : Entry) → resolve column s ≡ Some e → P (size column) e) → (columns : List ℕ) (words : List Name) (entries : List Entry) (rest : List Name) → entries_at resolve columns words ≡ Some (record { taken = entries; rest = rest }) → AllZip P (map size columns) entries
entries_within resolve size P holds [] words entries rest h =
    subst (AllZip P []) (taken_is [] words entries rest h) tt
entries_within resolve size P holds (column ∷ columns) words entries rest h =
    elim (entry_at words) as (λ o. column_then (resolve column) (entries_at resolve columns) o ≡ Some (record { taken = entries; rest = rest }) → AllZip P (size column ∷ map size columns) entries) [
      | None ↦ λ f. cc
      | Some had ↦ λ f.
          elim (resolve column had.taken) as (λ o. resolve column had.taken ≡ o → with_entry o (entries_at resolve columns had.rest) ≡ Some (record { taken = entries; rest = rest }) → AllZip P (size column ∷ map size columns) entries) [
            | None ↦ λ is g. cc
            | Some e ↦ λ is g.
                elim (entries_at resolve columns had.rest) as (λ o. entries_at resolve columns had.rest ≡ o → as_taken (λ es. e ∷ es) o ≡ Some (record { taken = entries; rest = rest }) → AllZip P (size column ∷ map size columns) entries) [
                  | None ↦ λ at k. cc
                  | Some more ↦ λ at k.
                      let whole_is = taken_is (e ∷ more.taken) more.rest entries rest k in
                      subst (AllZip P (size column ∷ map size columns)) whole_is (holds column had.taken e is, entries_within resolve size P holds columns had.rest more.taken more.rest at)
                ] refl g
          ] refl f
    ] h

inputs_within : (vars : Scope) (ins : List ℕ) (words : List Name) (entries : List Entry) (rest : List Name) → inputs_at vars ins words ≡ Some (record { taken = entries; rest = rest }) → AllZip IsInputEntry (sizes_in vars ins) entries
inputs_within vars ins words entries rest h =
    entries_within (λ column. input_entry (domain_at vars column)) (λ signal. length (domain_at vars signal)) IsInputEntry (λ column s e is. input_within (domain_at vars column) s e is) ins words entries rest h

outputs_within : (vars : Scope) (ins outs : List ℕ) (words : List Name) (entries : List Entry) (rest : List Name) → outputs_at vars ins outs words ≡ Some (record { taken = entries; rest = rest }) → AllZip (IsOutputEntry (sizes_in vars ins)) (sizes_in vars outs) entries
outputs_within vars ins outs words entries rest h =
    entries_within (λ column. output_entry vars ins (domain_at vars column)) (λ signal. length (domain_at vars signal)) (IsOutputEntry (sizes_in vars ins)) (λ column s e is. output_within vars ins (domain_at vars column) s e is) outs words entries rest h

-- rows and defaults

abbrev row_with : List Entry → List Entry → Row
row_with ins outs = record { ins = ins; outs = outs }

pub default_within : (vars : Scope) (ins outs : List ℕ) (words : List Name) (entries : List Entry) → default_spelled vars ins outs words ≡ Some entries → AllZip (IsOutputEntry (sizes_in vars ins)) (sizes_in vars outs) entries
default_within vars ins outs words entries h =
    elim (outputs_at vars ins outs words) as (λ o. outputs_at vars ins outs words ≡ o → whole o ≡ Some entries → AllZip (IsOutputEntry (sizes_in vars ins)) (sizes_in vars outs) entries) [
      | None ↦ λ is f. cc
      | Some had ↦ λ is f.
          elim (length had.rest == 0) as (λ b. (if b then Some had.taken else None) ≡ Some entries → AllZip (IsOutputEntry (sizes_in vars ins)) (sizes_in vars outs) entries) [
            | true ↦ λ g.
                let same : had.taken ≡ entries = cc in
                subst (AllZip (IsOutputEntry (sizes_in vars ins)) (sizes_in vars outs)) same (outputs_within vars ins outs words had.taken had.rest is)
            | false ↦ λ g. cc
          ] f
    ] refl h

pub row_within : (vars : Scope) (ins outs : List ℕ) (words : List Name) (row : Row) → row_spelled vars ins outs words ≡ Some row → IsRowOf (sizes_in vars ins) (sizes_in vars outs) row
row_within vars ins outs words row h =
    elim (inputs_at vars ins words) as (λ o. inputs_at vars ins words ≡ o → row_behind vars ins outs o ≡ Some row → IsRowOf (sizes_in vars ins) (sizes_in vars outs) row) [
      | None ↦ λ is f. cc
      | Some had ↦ λ is f.
          elim (default_spelled vars ins outs had.rest) as (λ o. default_spelled vars ins outs had.rest ≡ o → option_map (row_with had.taken) o ≡ Some row → IsRowOf (sizes_in vars ins) (sizes_in vars outs) row) [
            | None ↦ λ at g. cc
            | Some entries ↦ λ at g.
                let read : Row = record { ins = had.taken; outs = entries } in
                let same : read ≡ row = cc in
                subst (IsRowOf (sizes_in vars ins) (sizes_in vars outs)) same
                (record { inputs = inputs_within vars ins words had.taken had.rest is; outputs = default_within vars ins outs had.rest entries at })
          ] refl f
    ] refl h
