-- The variables of different numbers have different names, and are no more than the table has.
use Rattle.std.proofs.Common.{◌≡◌, ◌<◌, ◌≤◌, ◌||◌, ℕ, zero, suc, Bool, true, false, List, [], ◌∷◌, length, map, refl, sym, ◌∙◌, ap, subst, arith}
use Rattle.std.specs.Prelude.{nat_eq, All}
use Rattle.std.specs.List.{list_any, AllByRecursion, IsDistinct}
use Rattle.std.specs.Str.{bytes_eq}
use Rattle.std.proofs.lemmas.Bool.{false≢true, and_parts}
use Rattle.std.proofs.lemmas.Bool.Decides.{nat_tests}
use Rattle.std.proofs.lemmas.List.{length-map}
use Rattle.std.proofs.lemmas.Map.Steps.{length-le_from_distinct_below}
use Rattle.name_table.specs.ScopeVars.{variable_at, chosen_of}
use Rattle.name_table.specs.Variables.{Variable, names_of, are_different}
use Rattle.name_table.proofs.Apart.{bytes_eq_flip, not_true}

same_number : (a b : ℕ) → nat_eq a b ≡ true → a ≡ b
same_number a b h = grind (arith, nat_tests)

other_number : (a b : ℕ) → nat_eq a b ≡ false → a ≡ b → ⊥
other_number a b h e = grind (arith, nat_tests)

below_from_all : {V : Type 0} (vs : List V) (f : V → ℕ) (n : ℕ) → All (λ v. f v < n) vs → AllByRecursion (λ k. k < n) (map f vs)
below_from_all [] f n h = tt
below_from_all (v ∷ vs) f n h = (h 0 v (omega arith), below_from_all vs f n (λ k d lt. h (suc k) d (omega (arith, lt))))

below_any : (ks : List ℕ) (n : ℕ) → AllByRecursion (λ k. k < n) ks → (q : ℕ) → list_any (nat_eq q) ks ≡ true → q < n
below_any [] n h q e = absurd (false≢true e)
below_any (k ∷ ks) n h q e =
    elim (nat_eq q k) as (λ b. nat_eq q k ≡ b → (b || list_any (nat_eq q) ks) ≡ true → q < n) [
      | true ↦ λ is some. subst (λ x. x < n) (sym (same_number q k is)) h.0
      | false ↦ λ is some. below_any ks n h.1 q some
    ] refl e

none_at : (p : List ℕ → Bool) (vars : List Variable) (j : ℕ) → list_any p (names_of vars) ≡ false → j < length vars → p (variable_at vars j).name ≡ false
none_at p [] j h lt = absurd (omega (arith, lt))
none_at p (v ∷ vars) zero h lt =
    elim (p v.name) as (λ b. (b || list_any p (names_of vars)) ≡ false → b ≡ false) [ true ↦ λ e. e | false ↦ λ e. refl ] h
none_at p (v ∷ vars) (suc j) h lt =
    let rest = none_at p vars j in
    elim (p v.name) as (λ b. (b || list_any p (names_of vars)) ≡ false → p (variable_at vars j).name ≡ false) [
      | true ↦ λ e. absurd (false≢true (sym e))
      | false ↦ λ e. rest e (omega (arith, lt))
    ] h

-- at two numbers stand two names
names_apart : (vars : List Variable) (i j : ℕ) → are_different (names_of vars) ≡ true → i < length vars → j < length vars → (i ≡ j → ⊥) → bytes_eq (variable_at vars i).name (variable_at vars j).name ≡ false
names_apart [] i j h a b ne = absurd (omega (arith, a))
names_apart (v ∷ vars) zero zero h a b ne = absurd (ne refl)
names_apart (v ∷ vars) zero (suc j) h a b ne = none_at (bytes_eq v.name) vars j (not_true _ (and_parts _ _ h).0) (omega (arith, b))
names_apart (v ∷ vars) (suc i) zero h a b ne =
    bytes_eq_flip (variable_at vars i).name v.name ∙ none_at (bytes_eq v.name) vars i (not_true _ (and_parts _ _ h).0) (omega (arith, a))
names_apart (v ∷ vars) (suc i) (suc j) h a b ne =
    names_apart vars i j (and_parts _ _ h).1 (omega (arith, a)) (omega (arith, b)) (λ e. ne (ap suc e))

apart_from_chosen : (vars : List Variable) (k : ℕ) (ks : List ℕ) → are_different (names_of vars) ≡ true → k < length vars → AllByRecursion (λ j. j < length vars) ks → AllByRecursion (λ j. nat_eq k j ≡ false) ks → list_any (bytes_eq (variable_at vars k).name) (names_of (chosen_of vars ks)) ≡ false
apart_from_chosen vars k [] h lt below apart = refl
apart_from_chosen vars k (j ∷ ks) h lt below apart =
    let head = names_apart vars k j h lt below.0 (other_number k j apart.0) in
    let rest = apart_from_chosen vars k ks h lt below.1 apart.1 in
    rw (head, rest) refl

different_chosen : (vars : List Variable) (ks : List ℕ) → are_different (names_of vars) ≡ true → AllByRecursion (λ j. j < length vars) ks → IsDistinct nat_eq ks → are_different (names_of (chosen_of vars ks)) ≡ true
unfolding IsDistinct
different_chosen vars [] h below apart = refl
different_chosen vars (k ∷ ks) h below apart =
    let head = apart_from_chosen vars k ks h below.0 below.1 apart.0 in
    let rest = different_chosen vars ks h below.1 apart.1 in
    rw (head, rest) refl

module _ {V : Type 0} (vars : List Variable) (vs : List V) (f : V → ℕ) (known : All (λ v. f v < length vars) vs) (distinct : IsDistinct nat_eq (map f vs)) where
  pub chosen_differ : are_different (names_of vars) ≡ true → are_different (names_of (chosen_of vars (map f vs))) ≡ true
  chosen_differ h = different_chosen vars (map f vs) h (below_from_all vs f (length vars) known) distinct

  -- different numbers below the length are no more than the length
  pub length_chosen : length vs ≤ length vars
  length_chosen =
      subst (λ n. n ≤ length vars) (length-map vs f)
      (length-le_from_distinct_below (map f vs) (length vars) distinct (below_any (map f vs) (length vars) (below_from_all vs f (length vars) known)))
