-- The signals by their places.
use Rattle.std.proofs.Common.{◌≡◌, ◌≤◌, ◌+◌, ◌||◌, ℕ, zero, suc, Bool, true, false, List, [], ◌∷◌, ◌++◌, length, take, slice_get, Option, Some, None, unwrap_or, refl, sym, ◌∙◌, ap, subst, arith}
use Rattle.std.specs.List.{list_any, AllByRecursion}
use Rattle.std.specs.Str.{bytes_eq}
use Rattle.std.proofs.lemmas.Bool.{false≢true, and_parts}
use Rattle.std.proofs.lemmas.Slice.Eq.{bytes_eq-Decides}
use Rattle.name_table.specs.Variables as variables
use Rattle.name_table.specs.Variables.{Variable, is_in, place_of, are_different, numbers}
use Rattle.name_table.proofs.Apart.{bytes_eq_flip, not_true}
use Rattle.name_table.proofs.Found.{present}
use Rattle.net_model.specs.Forms.{Name}
use Rattle.blifmv_names.specs.Signals.{Signal, HasFewValues, AreSignals, names_of, variable_of, variables_of}

there_at : (names : List Name) (k : ℕ) (name : Name) → slice_get names k ≡ Some name → is_in names name ≡ true
there_at [] k name h = cc
there_at (n ∷ names) zero name h = let is : n ≡ name = cc in rw ((bytes_eq-Decides name n).1 (sym is)) refl
there_at (n ∷ names) (suc k) name h = rw (there_at names k name h) (or_true (bytes_eq name n))
  where
    or_true : (b : Bool) → (b || true) ≡ true
    or_true true = refl
    or_true false = refl

-- a name that isn't there has no place
no_place : (names : List Name) (name : Name) → is_in names name ≡ false → place_of names name ≡ None
no_place names name h =
    elim (place_of names name) as (λ o. place_of names name ≡ o → o ≡ None) [
      | None ↦ λ e. refl
      | Some k ↦ λ e. absurd (false≢true (sym h ∙ there_at names k name (present names name k e)))
    ] refl

other_name : (s : Signal) (signals : List Signal) (k : ℕ) (t : Signal) → list_any (bytes_eq s.name) (names_of signals) ≡ false → slice_get signals k ≡ Some t → bytes_eq s.name t.name ≡ false
other_name s [] k t h at = cc
other_name s (u ∷ signals) zero t h at =
    let is : u ≡ t = cc in
    elim (bytes_eq s.name u.name) as (λ b. bytes_eq s.name u.name ≡ b → (b || list_any (bytes_eq s.name) (names_of signals)) ≡ false → bytes_eq s.name t.name ≡ false) [
      | true ↦ λ e f. absurd (false≢true (sym f))
      | false ↦ λ e f. ap (λ (v : Signal). bytes_eq s.name v.name) (sym is) ∙ e
    ] refl h
other_name s (u ∷ signals) (suc k) t h at =
    let more = other_name s signals k t in
    elim (bytes_eq s.name u.name) as (λ b. (b || list_any (bytes_eq s.name) (names_of signals)) ≡ false → bytes_eq s.name t.name ≡ false) [
      | true ↦ λ f. absurd (false≢true (sym f))
      | false ↦ λ f. more f at
    ] h

not_before : (signals : List Signal) (k : ℕ) (s : Signal) → are_different (names_of signals) ≡ true → slice_get signals k ≡ Some s → is_in (variables.names_of (take k (variables_of signals))) s.name ≡ false
not_before [] k s h at = cc
not_before (u ∷ signals) zero s h at = refl
not_before (u ∷ signals) (suc k) s h at =
    let parts = and_parts _ _ h in
    let more = not_before signals k s parts.1 at in
    let apart : bytes_eq s.name u.name ≡ false = bytes_eq_flip s.name u.name ∙ other_name u signals k s (not_true _ parts.0) at in
    rw (apart, more) refl

pub new_at : (signals : List Signal) (k : ℕ) (s : Signal) → AreSignals signals → slice_get signals k ≡ Some s → place_of (variables.names_of (take k (variables_of signals))) s.name ≡ None
new_at signals k s h at = no_place (variables.names_of (take k (variables_of signals))) s.name (not_before signals k s h.different at)

few_at : (signals : List Signal) (k : ℕ) (s : Signal) → AllByRecursion (λ signal. HasFewValues signal.given) signals → slice_get signals k ≡ Some s → HasFewValues s.given
few_at [] k s h at = cc
few_at (u ∷ signals) zero s h at = let is : u ≡ s = cc in subst (λ (v : Signal). HasFewValues v.given) is h.0
few_at (u ∷ signals) (suc k) s h at = few_at signals k s h.1 at

few_values : (given : Option (List Name)) → HasFewValues given → length (unwrap_or given (numbers 2)) ≤ 65536
few_values None h = omega arith
few_values (Some domain) h = h

pub few_values_at : (signals : List Signal) (k : ℕ) (s : Signal) → AreSignals signals → slice_get signals k ≡ Some s → length (unwrap_or s.given (numbers 2)) ≤ 65536
few_values_at signals k s h at = few_values s.given (few_at signals k s h.few at)

pub next_variable : (signals : List Signal) (k : ℕ) (s : Signal) → slice_get signals k ≡ Some s → take (k + 1) (variables_of signals) ≡ take k (variables_of signals) ++ variable_of s ∷ []
next_variable [] k s at = cc
next_variable (u ∷ signals) zero s at = let is : u ≡ s = cc in ap (λ (v : Signal). variable_of v ∷ []) is
next_variable (u ∷ signals) (suc k) s at = let next : suc k + 1 ≡ suc (k + 1) = omega arith in rw next (ap (λ vars. variable_of u ∷ vars) (next_variable signals k s at))
