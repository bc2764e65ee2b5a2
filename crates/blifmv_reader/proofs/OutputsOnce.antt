-- A network of a text has each output once.
use Rattle.std.proofs.Common.{◌≡◌, ◌≤◌, ◌+◌, ℕ, true, false, not, List, [], ◌∷◌, nat_eq, count_by, slice_get, Some, None, unwrap_or, refl, sym, ◌∙◌, ap, zero-add, arith}
use Rattle.std.specs.List.{list_any}
use Rattle.std.specs.Str.{bytes_eq}
use Rattle.std.proofs.lemmas.Bool.{false≢true, and_parts, eqb-true}
use Rattle.std.proofs.lemmas.Slice.Eq.{bytes_eq-Decides}
use Rattle.name_table.specs.Variables.{names_of, is_in, place_of, are_different}
use Rattle.name_table.proofs.Apart.{not_true}
use Rattle.name_table.proofs.Found.{absent, present}
use Rattle.net_model.specs.Words.{Scope}
use Rattle.net_model.specs.Forms.{Name}
use Rattle.net_model.specs.NetTexts.{place_in, places_in}
use Rattle.net_model.proofs.Letters.{counted_first}
use Rattle.blifmv_names.proofs.Faultless.{neither}
use Rattle.blifmv_names.proofs.Gathered.{AreThere}

-- at the place of a name stands the name
found_at : (names : List Name) (name : Name) → is_in names name ≡ true → slice_get names (unwrap_or (place_of names name) 0) ≡ Some name
found_at names name there =
    elim (place_of names name) as (λ o. place_of names name ≡ o → slice_get names (unwrap_or o 0) ≡ Some name) [
      | None ↦ λ is. absurd (false≢true (sym (absent names name is) ∙ there))
      | Some k ↦ λ is. present names name k is
    ] refl

-- two names have two places
same_name : (vars : Scope) (name other : Name) → is_in (names_of vars) name ≡ true → is_in (names_of vars) other ≡ true → place_in vars name ≡ place_in vars other → name ≡ other
same_name vars name other here there same =
    let both : Some name ≡ Some other = sym (found_at (names_of vars) name here) ∙ (ap (slice_get (names_of vars)) same ∙ found_at (names_of vars) other there) in
    cc

-- a signal that one name has is no place of other names
none_counted : (vars : Scope) (name : Name) (names : List Name) → is_in (names_of vars) name ≡ true → AreThere (names_of vars) names → list_any (bytes_eq name) names ≡ false → count_by (nat_eq (place_in vars name)) (places_in vars names) ≡ 0
none_counted vars name [] here there none = refl
none_counted vars name (other ∷ names) here there none =
    let parts = neither (bytes_eq name other) (list_any (bytes_eq name) names) none in
    let signal = place_in vars name in
    elim (nat_eq signal (place_in vars other)) as (λ b. nat_eq signal (place_in vars other) ≡ b → count_by (nat_eq signal) (places_in vars (other ∷ names)) ≡ 0) [
      | true ↦ λ is.
          let same : name ≡ other = same_name vars name other here there.0 (eqb-true signal (place_in vars other) is) in
          absurd (false≢true (sym parts.0 ∙ (bytes_eq-Decides name other).1 same))
      | false ↦ λ is. counted_first signal (place_in vars other) (places_in vars names) false is ∙ (zero-add _ ∙ none_counted vars name names here there.1 parts.1)
    ] refl

-- different names that are there have different places
pub counted_once : (vars : Scope) (names : List Name) (signal : ℕ) → AreThere (names_of vars) names → are_different names ≡ true → count_by (nat_eq signal) (places_in vars names) ≤ 1
counted_once vars [] signal there different = omega arith
counted_once vars (name ∷ names) signal there different =
    let parts = and_parts (not (list_any (bytes_eq name) names)) (are_different names) different in
    let none = none_counted vars name names there.0 there.1 (not_true (list_any (bytes_eq name) names) parts.0) in
    let more = counted_once vars names signal there.1 parts.1 in
    elim (nat_eq signal (place_in vars name)) as (λ b. nat_eq signal (place_in vars name) ≡ b → count_by (nat_eq signal) (places_in vars (name ∷ names)) ≤ 1) [
      | true ↦ λ is.
          let rest : count_by (nat_eq signal) (places_in vars names) ≡ 0 = ap (λ s. count_by (nat_eq s) (places_in vars names)) (eqb-true signal (place_in vars name) is) ∙ none in
          let all : count_by (nat_eq signal) (places_in vars (name ∷ names)) ≡ 1 + count_by (nat_eq signal) (places_in vars names) =
          counted_first signal (place_in vars name) (places_in vars names) true is in
          omega (arith, rest, all)
      | false ↦ λ is.
          let all : count_by (nat_eq signal) (places_in vars (name ∷ names)) ≡ 0 + count_by (nat_eq signal) (places_in vars names) =
          counted_first signal (place_in vars name) (places_in vars names) false is in
          omega (arith, all, more)
    ] refl
