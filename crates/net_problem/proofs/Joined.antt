-- Different names, joined with what is new of others.
use Rattle.std.proofs.Common.{◌≡◌, ◌<◌, ◌≤◌, ◌+◌, ◌||◌, ℕ, Bool, true, false, not, cond, List, [], ◌∷◌, ◌++◌, length, refl, sym, ◌∙◌, ap, arith}
use Rattle.std.specs.Prelude.{filter}
use Rattle.std.specs.List.{AllByRecursion, list_any, list_all}
use Rattle.std.specs.Str.{bytes_eq}
use Rattle.std.proofs.lemmas.Bool.{false≢true, and_parts, and_from}
use Rattle.std.proofs.lemmas.List.{length-append, map-append}
use Rattle.std.proofs.lemmas.List.Folds.{list_any-append}
use Rattle.std.proofs.lemmas.List.Sums.{length-filter, count_by-le-length}
use Rattle.std.proofs.lemmas.Slice.Eq.{bytes_eq-Decides}
use Rattle.name_table.specs.Variables.{names_of, is_in, are_different}
use Rattle.name_table.proofs.Apart.{bytes_eq_flip, not_true}
use Rattle.net_model.specs.Words.{Scope}
use Rattle.net_model.specs.Topologies.{is_named, joint_scope, joint_actions}
use Rattle.net_problem.proofs.NamesKnown.{named_in}

abbrev Names : Type 0
Names = List (List ℕ)

pub neither : (a b : Bool) → (a || b) ≡ false → (a ≡ false) × (b ≡ false)
neither true b h = absurd (false≢true (sym h))
neither false b h = (refl, h)

-- none of these names is one of those
abbrev pub AreApart : Names → Names → Type 0
AreApart had names = AllByRecursion (λ name. is_in had name ≡ false) names

apart_first : (x : List ℕ) (xs ys : Names) → AreApart (x ∷ xs) ys → list_any (bytes_eq x) ys ≡ false
apart_first x xs [] apart = refl
apart_first x xs (y ∷ ys) apart =
    let here : bytes_eq x y ≡ false = bytes_eq_flip x y ∙ (neither (bytes_eq y x) (is_in xs y) apart.0).0 in
    rw (here, apart_first x xs ys apart.1) refl

apart_later : (x : List ℕ) (xs ys : Names) → AreApart (x ∷ xs) ys → AreApart xs ys
apart_later x xs [] apart = tt
apart_later x xs (y ∷ ys) apart = ((neither (bytes_eq y x) (is_in xs y) apart.0).1, apart_later x xs ys apart.1)

pub different_both : (xs ys : Names) → are_different xs ≡ true → are_different ys ≡ true → AreApart xs ys → are_different (xs ++ ys) ≡ true
different_both [] ys first second apart = second
different_both (x ∷ xs) ys first second apart =
    let parts = and_parts (not (list_any (bytes_eq x) xs)) (are_different xs) first in
    let none : list_any (bytes_eq x) (xs ++ ys) ≡ false =
    list_any-append (bytes_eq x) xs ys ∙ (λ i. not_true (list_any (bytes_eq x) xs) parts.0 i || apart_first x xs ys apart i) in
    rw (none, different_both xs ys parts.1 second (apart_later x xs ys apart)) refl

none_kept : (p test : List ℕ → Bool) (xs : Names) → list_any p xs ≡ false → list_any p (filter test xs) ≡ false
none_kept p test [] none = refl
none_kept p test (x ∷ xs) none =
    let parts = neither (p x) (list_any p xs) none in
    let rest = none_kept p test xs parts.1 in
    elim (test x) as (λ b. list_any p (cond b (x ∷ filter test xs) (filter test xs)) ≡ false) [ true ↦ rw (parts.0, rest) refl | false ↦ rest ]

different_kept : (test : List ℕ → Bool) (xs : Names) → are_different xs ≡ true → are_different (filter test xs) ≡ true
different_kept test [] different = refl
different_kept test (x ∷ xs) different =
    let parts = and_parts (not (list_any (bytes_eq x) xs)) (are_different xs) different in
    let rest = different_kept test xs parts.1 in
    let none = none_kept (bytes_eq x) test xs (not_true (list_any (bytes_eq x) xs) parts.0) in
    elim (test x) as (λ b. are_different (cond b (x ∷ filter test xs) (filter test xs)) ≡ true) [ true ↦ rw (none, rest) refl | false ↦ rest ]

new_apart : (xs ys : Names) → AreApart xs (filter (λ y. not (is_in xs y)) ys)
new_apart xs [] = tt
new_apart xs (y ∷ ys) =
    let rest = new_apart xs ys in
    elim (is_in xs y) as (λ b. is_in xs y ≡ b → AreApart xs (cond (not b) (y ∷ filter (λ z. not (is_in xs z)) ys) (filter (λ z. not (is_in xs z)) ys))) [
      | true ↦ λ is. rest
      | false ↦ λ is. (is, rest)
    ] refl

-- the joint actions of different actions are different
pub joint_different : (f s : Names) → are_different f ≡ true → are_different s ≡ true → are_different (joint_actions f s) ≡ true
joint_different f s first second =
    different_both f (filter (λ action. not (is_in f action)) s) first (different_kept (λ action. not (is_in f action)) s second) (new_apart f s)

-- so are the names of joint variables

names_kept : (test : List ℕ → Bool) (vars : Scope) → names_of (filter (λ v. test v.name) vars) ≡ filter test (names_of vars)
names_kept test [] = refl
names_kept test (v ∷ vars) =
    let rest = names_kept test vars in
    elim (test v.name) as (λ b. names_of (cond b (v ∷ filter (λ w. test w.name) vars) (filter (λ w. test w.name) vars)) ≡ cond b (v.name ∷ filter test (names_of vars)) (filter test (names_of vars)))
    [ true ↦ ap (λ names. v.name ∷ names) rest | false ↦ rest ]

names_joined : (f s : Scope) → names_of (joint_scope f s) ≡ joint_actions (names_of f) (names_of s)
names_joined f s =
    map-append (λ v. v.name) f (filter (λ v. not (is_named f v.name)) s)
    ∙ ap (λ names. names_of f ++ names)
    (names_kept (λ name. not (is_named f name)) s ∙ (λ i. filter (λ name. not (named_in f name i)) (names_of s)))

pub joint_names_different : (f s : Scope) → are_different (names_of f) ≡ true → are_different (names_of s) ≡ true → are_different (names_of (joint_scope f s)) ≡ true
joint_names_different f s first second = ap are_different (names_joined f s) ∙ joint_different (names_of f) (names_of s) first second

pub joint_few : (f s : Scope) → length (joint_scope f s) ≤ length f + length s
joint_few f s =
    let kept = filter (λ v. not (is_named f v.name)) s in
    let both = length-append f kept in
    let counted = length-filter (λ v. not (is_named f v.name)) s in
    let few = count_by-le-length (λ v. not (is_named f v.name)) s in
    omega (arith, both, counted, few)

-- different names that are all known are no more than there are known ones

abbrev is_other : List ℕ → List ℕ → Bool
is_other name other = not (bytes_eq name other)

others_fewer : (name : List ℕ) (known : Names) → is_in known name ≡ true → length (filter (is_other name) known) < length known
others_fewer name [] there = absurd (false≢true there)
others_fewer name (first ∷ known) there =
    let counted = length-filter (is_other name) known in
    let few = count_by-le-length (is_other name) known in
    elim (bytes_eq name first) as (λ b. (b || is_in known name) ≡ true → length (cond (not b) (first ∷ filter (is_other name) known) (filter (is_other name) known)) < length (first ∷ known)) [
      | true ↦ λ e. omega (arith, counted, few)
      | false ↦ λ e. let more = others_fewer name known e in omega (arith, more)
    ] there

other_stays : (name other : List ℕ) (known : Names) → bytes_eq name other ≡ false → is_in known other ≡ true → is_in (filter (is_other name) known) other ≡ true
other_stays name other [] differ there = there
other_stays name other (first ∷ known) differ there =
    let more = other_stays name other known differ in
    elim (bytes_eq name first) as (λ b. bytes_eq name first ≡ b → (bytes_eq other first || is_in known other) ≡ true → is_in (cond (not b) (first ∷ filter (is_other name) known) (filter (is_other name) known)) other ≡ true) [
      | true ↦ λ is e.
          let same : name ≡ first = (bytes_eq-Decides name first).0 is in
          let not_first : bytes_eq other first ≡ false = ap (bytes_eq other) (sym same) ∙ (bytes_eq_flip other name ∙ differ) in
          more (sym (ap (λ b. b || is_in known other) not_first) ∙ e)
      | false ↦ λ is e.
          elim (bytes_eq other first) as (λ b. (b || is_in known other) ≡ true → (b || is_in (filter (is_other name) known) other) ≡ true)
          [ true ↦ λ k. refl | false ↦ λ k. more k ] e
    ] refl there

others_stay : (name : List ℕ) (known names : Names) → list_any (bytes_eq name) names ≡ false → list_all (is_in known) names ≡ true → list_all (is_in (filter (is_other name) known)) names ≡ true
others_stay name known [] none all = refl
others_stay name known (other ∷ names) none all =
    let differ = neither (bytes_eq name other) (list_any (bytes_eq name) names) none in
    let parts = and_parts (is_in known other) (list_all (is_in known) names) all in
    and_from (is_in (filter (is_other name) known) other) (list_all (is_in (filter (is_other name) known)) names)
    (other_stays name other known differ.0 parts.0) (others_stay name known names differ.1 parts.1)

pub known_few : (known names : Names) → are_different names ≡ true → list_all (is_in known) names ≡ true → length names ≤ length known
known_few known [] different all = omega arith
known_few known (name ∷ names) different all =
    let apart = and_parts (not (list_any (bytes_eq name) names)) (are_different names) different in
    let parts = and_parts (is_in known name) (list_all (is_in known) names) all in
    let fewer = others_fewer name known parts.0 in
    let more = known_few (filter (is_other name) known) names apart.1
    (others_stay name known names (not_true (list_any (bytes_eq name) names) apart.0) parts.1) in
    omega (arith, fewer, more)
