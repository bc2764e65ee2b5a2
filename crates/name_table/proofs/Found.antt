-- The place of a name in a list.
use Rattle.std.proofs.Common.{◌≡◌, ◌<◌, ◌≤◌, ◌+◌, ◌||◌, ◌⊎◌, inl, inr, ℕ, zero, suc, Bool, true, false, not, cond, List, [], ◌∷◌, length, map, slice_get, Some, None, MatchOption, refl, sym, ◌∙◌, ap, subst, arith}
use Rattle.std.specs.Prelude.{nat_lt, is_some}
use Rattle.std.specs.List.{list_any, position_or_len}
use Rattle.std.specs.Str.{bytes_eq}
use Rattle.std.proofs.lemmas.Bool.{false≢true}
use Rattle.std.proofs.lemmas.Bool.Decides.{nat_tests}
use Rattle.std.proofs.lemmas.Slice.Eq.{bytes_eq-Decides}
use Rattle.name_table.specs.Variables.{Variable, names_of, is_in, place_of, IsAdded, IsNew, IsKnown}
use Rattle.name_table.proofs.Shown.{values_at}

lt_true : (a b : ℕ) → nat_lt a b ≡ true → a < b
lt_true a b h = grind (arith, nat_tests)

lt_false : (a b : ℕ) → nat_lt a b ≡ false → b ≤ a
lt_false a b h = grind (arith, nat_tests)

pub lt_is : (a b : ℕ) → a < b → nat_lt a b ≡ true
lt_is a b h = grind (arith, nat_tests)

pub lt_is_not : (a b : ℕ) → b ≤ a → nat_lt a b ≡ false
lt_is_not a b h = grind (arith, nat_tests)

pub any_from_get : (p : List ℕ → Bool) (xs : List (List ℕ)) (k : ℕ) (x : List ℕ) → slice_get xs k ≡ Some x → p x ≡ true → list_any p xs ≡ true
any_from_get p [] k x h q = cc
any_from_get p (y ∷ ys) zero x h q =
    let is : y ≡ x = cc in
    rw (is, q) refl
any_from_get p (y ∷ ys) (suc k) x h q =
    let more = any_from_get p ys k x h q in
    elim (p y) as (λ b. (b || list_any p ys) ≡ true) [ true ↦ refl | false ↦ more ]

-- either no name passes the test, or the first that does stands at the place
pub first_at : (p : List ℕ → Bool) (xs : List (List ℕ)) → ((length xs ≤ position_or_len p xs) × (list_any p xs ≡ false)) ⊎ ((x : List ℕ) × (slice_get xs (position_or_len p xs) ≡ Some x) × (p x ≡ true) × (position_or_len p xs < length xs))
first_at p [] = inl (omega arith, refl)
first_at p (x ∷ xs) =
    let rest = first_at p xs in
    elim (p x) as (λ b. p x ≡ b → ((length (x ∷ xs) ≤ cond (not b) (1 + position_or_len p xs) 0) × ((b || list_any p xs) ≡ false)) ⊎ ((y : List ℕ) × (slice_get (x ∷ xs) (cond (not b) (1 + position_or_len p xs) 0) ≡ Some y) × (p y ≡ true) × (cond (not b) (1 + position_or_len p xs) 0 < length (x ∷ xs)))) [
      | true ↦ λ is. inr (x, refl, is, omega arith)
      | false ↦ λ is.
          elim rest [
            | inl h ↦ inl (omega (arith, h.0), h.1)
            | inr h ↦
                let next : 1 + position_or_len p xs ≡ suc (position_or_len p xs) = omega arith in
                inr (h.0, ap (slice_get (x ∷ xs)) next ∙ h.1, h.2, omega (arith, h.3))
          ]
    ] refl

-- a name has a place where it is there
pub has_place : (names : List (List ℕ)) (name : List ℕ) → is_some (place_of names name) ≡ is_in names name
has_place names name =
    elim (first_at (bytes_eq name) names) [
      | inl h ↦
          ap (λ b. is_some (cond b (Some (position_or_len (bytes_eq name) names)) None)) (lt_is_not _ _ h.0)
          ∙ sym h.1
      | inr h ↦
          ap (λ b. is_some (cond b (Some (position_or_len (bytes_eq name) names)) None)) (lt_is _ _ h.3)
          ∙ sym (any_from_get (bytes_eq name) names (position_or_len (bytes_eq name) names) h.0 h.1 h.2)
    ]

-- a name without a place isn't there
pub absent : (names : List (List ℕ)) (name : List ℕ) → place_of names name ≡ None → is_in names name ≡ false
absent names name none =
    elim (first_at (bytes_eq name) names) [
      | inl h ↦ h.1
      | inr h ↦
          elim (nat_lt (position_or_len (bytes_eq name) names) (length names)) as (λ b. nat_lt (position_or_len (bytes_eq name) names) (length names) ≡ b → cond b (Some (position_or_len (bytes_eq name) names)) None ≡ None → is_in names name ≡ false) [
            | true ↦ λ t e. cc
            | false ↦ λ t e. absurd (omega (arith, lt_false _ _ t, h.3))
          ] refl none
    ]

-- the name at the place of a name
pub present : (names : List (List ℕ)) (name : List ℕ) (k : ℕ) → place_of names name ≡ Some k → slice_get names k ≡ Some name
present names name k some =
    elim (nat_lt (position_or_len (bytes_eq name) names) (length names)) as (λ b. nat_lt (position_or_len (bytes_eq name) names) (length names) ≡ b → cond b (Some (position_or_len (bytes_eq name) names)) None ≡ Some k → slice_get names k ≡ Some name) [
      | true ↦ λ t e.
          let is : position_or_len (bytes_eq name) names ≡ k = cc in
          elim (first_at (bytes_eq name) names) [
            | inl h ↦ absurd (omega (arith, lt_true _ _ t, h.0))
            | inr h ↦ ap (slice_get names) (sym is) ∙ (h.1 ∙ ap Some (sym ((bytes_eq-Decides name h.0).0 h.2)))
          ]
      | false ↦ λ t e. cc
    ] refl some

-- a variable with the name and the values at a place stands there
pub both_at : (vars : List Variable) (k : ℕ) (n : List ℕ) (ms : List (List ℕ)) → slice_get (names_of vars) k ≡ Some n → slice_get (map (λ v. v.values) vars) k ≡ Some ms → slice_get vars k ≡ Some (record { name = n; values = ms })
both_at [] k n ms p q = cc
both_at (v ∷ vars) zero n ms p q =
    let is : v.name ≡ n = cc in
    let has : v.values ≡ ms = cc in
    λ j. Some (record { name = is j; values = has j })
both_at (v ∷ vars) (suc k) n ms p q = both_at vars k n ms p q

had_at : (vars : List Variable) (k : ℕ) (n : List ℕ) → slice_get (names_of vars) k ≡ Some n → (had : Variable) × (slice_get vars k ≡ Some had)
had_at [] k n p = cc
had_at (v ∷ vars) zero n p = (v, refl)
had_at (v ∷ vars) (suc k) n p = had_at vars k n p

-- a name that is there with these values
pub known : (vars : List Variable) (name : List ℕ) (values : List (List ℕ)) (k : ℕ) → Some k ≡ place_of (names_of vars) name → slice_get (map (λ v. v.values) vars) k ≡ Some values → IsAdded vars (record { name = name; values = values }) vars k
known vars name values k is has =
    let v : Variable = record { name = name; values = values } in
    let there = both_at vars k name values (present (names_of vars) name k (sym is)) has in
    subst (λ o. MatchOption o (IsNew vars v vars k) (λ place. IsKnown vars v vars place k)) is (record { number_is = refl; same = there; kept = refl })

-- a name that is there with other values
pub differs : (vars : List Variable) (name : List ℕ) (values : List (List ℕ)) (k : ℕ) (same : Bool) → Some k ≡ place_of (names_of vars) name → (slice_get (map (λ v. v.values) vars) k ≡ Some values → same ≡ true) → same ≡ false → (x : ℕ) × (had : Variable) × (place_of (names_of vars) name ≡ Some x) × (slice_get vars x ≡ Some had) × (had.values ≡ values → ⊥)
differs vars name values k same is says no_match =
    let had = had_at vars k name (present (names_of vars) name k (sym is)) in
    (k, had.0, sym is, had.1, λ e. false≢true (sym no_match ∙ says (values_at vars k had.0 had.1 ∙ ap Some e)))
