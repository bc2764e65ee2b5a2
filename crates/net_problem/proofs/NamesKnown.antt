-- Names found in a list by their places.
use Rattle.std.proofs.Common.{◌≡◌, ◌||◌, ℕ, zero, suc, Bool, true, List, [], ◌∷◌, ◌++◌, slice_get, Some, None, refl, sym, ◌∙◌}
use Rattle.std.specs.Option.{is_some}
use Rattle.std.specs.List.{list_any, list_all}
use Rattle.std.specs.Str.{bytes_eq}
use Rattle.std.proofs.lemmas.Bool.{or_left, or_right, and_parts, and_from}
use Rattle.std.proofs.lemmas.Slice.Eq.{bytes_eq-Decides}
use Rattle.name_table.specs.Variables.{names_of, is_in, place_of}
use Rattle.name_table.proofs.Apart.{bytes_eq_flip}
use Rattle.name_table.proofs.Found.{absent, present}
use Rattle.net_model.specs.Words.{Scope}
use Rattle.net_model.specs.Topologies.{is_named}

-- what stands at a place is in the list
pub in_at : (names : List (List ℕ)) (name : List ℕ) (k : ℕ) → slice_get names k ≡ Some name → is_in names name ≡ true
in_at [] name k at = cc
in_at (first ∷ names) name zero at =
    let same : name ≡ first = cc in
    or_left (bytes_eq name first) (list_any (bytes_eq name) names) ((bytes_eq-Decides name first).1 same)
in_at (first ∷ names) name (suc k) at = or_right (bytes_eq name first) (list_any (bytes_eq name) names) (in_at names name k at)

-- a name has a place where it is in the list
pub has_place : (names : List (List ℕ)) (name : List ℕ) → is_some (place_of names name) ≡ is_in names name
has_place names name =
    elim (place_of names name) as (λ o. place_of names name ≡ o → is_some o ≡ is_in names name) [
      | None ↦ λ is. sym (absent names name is)
      | Some k ↦ λ is. sym (in_at names name k (present names name k is))
    ] refl

-- a variable has the name where it is one of the variables' names
pub named_in : (vars : Scope) (name : List ℕ) → is_named vars name ≡ is_in (names_of vars) name
named_in [] name = refl
named_in (v ∷ vars) name = λ i. bytes_eq_flip v.name name i || named_in vars name i

-- what the tests of a list and of another say of both together
pub all_front : (p : List ℕ → Bool) (xs ys : List (List ℕ)) → list_all p (xs ++ ys) ≡ true → list_all p xs ≡ true
all_front p [] ys all = refl
all_front p (x ∷ xs) ys all =
    let parts = and_parts (p x) (list_all p (xs ++ ys)) all in
    and_from (p x) (list_all p xs) parts.0 (all_front p xs ys parts.1)

pub all_rest : (p : List ℕ → Bool) (xs ys : List (List ℕ)) → list_all p (xs ++ ys) ≡ true → list_all p ys ≡ true
all_rest p [] ys all = all
all_rest p (x ∷ xs) ys all = all_rest p xs ys (and_parts (p x) (list_all p (xs ++ ys)) all).1

pub all_both : (p : List ℕ → Bool) (xs ys : List (List ℕ)) → list_all p xs ≡ true → list_all p ys ≡ true → list_all p (xs ++ ys) ≡ true
all_both p [] ys all more = more
all_both p (x ∷ xs) ys all more =
    let parts = and_parts (p x) (list_all p xs) all in
    and_from (p x) (list_all p (xs ++ ys)) parts.0 (all_both p xs ys parts.1 more)

-- names that are known are names of variables
pub known_named : (vars : Scope) (names : List (List ℕ)) → list_all (is_in (names_of vars)) names ≡ true → list_all (is_named vars) names ≡ true
known_named vars names known = (λ i. list_all (λ name. named_in vars name i) names) ∙ known
