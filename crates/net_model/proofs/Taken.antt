-- What a table of names takes, where it can have these variables.
use Rattle.std.proofs.Common.{◌≡◌, ◌≤◌, ◌<◌, ◌+◌, ◌++◌, ◌&&◌, ◌||◌, ◌≢◌, ℕ, zero, suc, Bool, true, false, not, List, [], ◌∷◌, map, length, take, drop, Option, Some, None, refl, sym, ap, ◌∙◌, subst, length-append, add-one, arith}
use Rattle.std.specs.Prelude.{MatchOption, is_some, slice_get}
use Rattle.std.specs.Str.{bytes_eq}
use Rattle.std.specs.List.{AllByRecursion, list_any}
use Rattle.std.proofs.lemmas.Bool.{false≢true, and_parts}
use Rattle.std.proofs.lemmas.List.{map-append, append_assoc, take-append-drop}
use Rattle.std.proofs.lemmas.List.Folds.{list_any-append}
use Rattle.name_table.specs.Variables.{Variable, names_of, is_in, place_of, are_different, IsTable, IsNew, IsKnown, IsAdded}
use Rattle.name_table.specs.ScopeVars.{variable_at}
use Rattle.name_table.proofs.Apart.{not_different, not_true}
use Rattle.name_table.proofs.Found.{has_place}

module _ (old : List Variable) (v : Variable) (table : IsTable (old ++ v ∷ [])) where
  fresh : is_in (names_of old) v.name ≡ false
  fresh = pick (is_in (names_of old) v.name) refl
    where
      pick : (b : Bool) → is_in (names_of old) v.name ≡ b → is_in (names_of old) v.name ≡ false
      pick false is = is
      pick true is = absurd (false≢true (sym (ap are_different (map-append (λ w. w.name) old (v ∷ [])) ∙ not_different (names_of old) v.name [] is) ∙ table.different))

  pub absent : place_of (names_of old) v.name ≡ None
  absent = pick (place_of (names_of old) v.name) refl
    where
      pick : (place : Option ℕ) → place_of (names_of old) v.name ≡ place → place_of (names_of old) v.name ≡ None
      pick None is = is
      pick (Some k) is = absurd (false≢true (sym fresh ∙ sym (has_place (names_of old) v.name) ∙ ap is_some is))

  pub room : length old < 4096
  room = let few = table.few in let long = length-append old (v ∷ []) in omega (arith, few, long)

  pub small : length v.values ≤ 65536
  small = last old table.small
    where
      last : (vars : List Variable) → AllByRecursion (λ w. length w.values ≤ 65536) (vars ++ v ∷ []) → length v.values ≤ 65536
      last [] h = h.0
      last (w ∷ vars) h = last vars h.1

  pub added : (new : List Variable) (number : ℕ) → IsAdded old v new number → IsNew old v new number
  added new number is = subst (λ place. MatchOption place (IsNew old v new number) (λ k. IsKnown old v new k number)) absent is

-- the first variables of a table

first_names : (names more : List (List ℕ)) → are_different (names ++ more) ≡ true → are_different names ≡ true
first_names [] more h = refl
first_names (name ∷ names) more h =
    let parts = and_parts (not (list_any (bytes_eq name) (names ++ more))) (are_different (names ++ more)) h in
    let none = sym (list_any-append (bytes_eq name) names more) ∙ not_true (list_any (bytes_eq name) (names ++ more)) parts.0 in
    ap (λ b. not b && are_different names) (left (list_any (bytes_eq name) names) (list_any (bytes_eq name) more) none) ∙ first_names names more parts.1
  where
    left : (a b : Bool) → (a || b) ≡ false → a ≡ false
    left true b is = is
    left false b is = refl

first_small : (vars more : List Variable) → AllByRecursion (λ v. length v.values ≤ 65536) (vars ++ more) → AllByRecursion (λ v. length v.values ≤ 65536) vars
first_small [] more h = tt
first_small (v ∷ vars) more h = (h.0, first_small vars more h.1)

pub first-table : (vars more : List Variable) → IsTable (vars ++ more) → IsTable vars
first-table vars more table = record {
  few = let few = table.few in let long = length-append vars more in omega (arith, few, long);
  different = first_names (names_of vars) (names_of more) (sym (ap are_different (map-append (λ w. w.name) vars more)) ∙ table.different);
  small = first_small vars more table.small;
}

-- up to a variable, and with it

one-suc : (vars : List Variable) (k : ℕ) → k < length vars → take (suc k) vars ≡ take k vars ++ variable_at vars k ∷ []
one-suc [] k within = absurd (omega (arith, within))
one-suc (v ∷ vars) zero within = refl
one-suc (v ∷ vars) (suc k) within = ap (λ (more : List Variable). v ∷ more) (one-suc vars k (omega (arith, within)))

pub one-more : (vars : List Variable) (k : ℕ) → k < length vars → take (k + 1) vars ≡ take k vars ++ variable_at vars k ∷ []
one-more vars k within = rw add-one (one-suc vars k within)

-- so a table takes it
pub next-table : (old vars : List Variable) (k : ℕ) → k < length vars → IsTable (old ++ vars) → IsTable ((old ++ take k vars) ++ variable_at vars k ∷ [])
next-table old vars k within table =
    subst IsTable (ap (λ (more : List Variable). old ++ more) (one-more vars k within) ∙ sym (append_assoc old (take k vars) (variable_at vars k ∷ [])))
    (first-table (old ++ take (k + 1) vars) (drop (k + 1) vars)
    (subst IsTable (ap (λ (more : List Variable). old ++ more) (sym (take-append-drop (k + 1) vars)) ∙ sym (append_assoc old (take (k + 1) vars) (drop (k + 1) vars))) table))
