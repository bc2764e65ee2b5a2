-- Which levels stand in a list.
use Rattle.std.proofs.Common.{◌≡◌, ◌==◌, ◌<◌, ◌≤◌, ◌⊎◌, ◌↔◌, ◌-◌, ℕ, Bool, true, false, List, length, get_or, slice_get, Some, Result, Ok, Err, MatchResult, refl, sym, ap, ◌∙◌, subst, inl, inr, arith}
use Rattle.std.specs.List.{Contains, dedup}
use Rattle.std.specs.List.Sorted.{IsPermutation, IsStrictlyIncreasing}
use Rattle.std.specs.Result.{is_ok}
use Rattle.std.proofs.lemmas.Bool.{eqb-true, eq-eqb, cases_lt, false_from_ne_true}
use Rattle.std.proofs.lemmas.List.Folds.{list_any_at, Any-from_list_any}
use Rattle.std.proofs.lemmas.List.Kept.{AllPairs-from_increasing, Contains-dedup_nat, Contains-from_dedup}
use Rattle.std.proofs.lemmas.List.Sorted.{list_any-IsPermutation}
use Rattle.std.proofs.lemmas.Option.{slice_get_within, get_or_from_slice_get, slice_get-get_or}
use Rattle.bdd_ops.specs.Levels.{is_in}

-- two tests that are true together are one
pub same-tests : (a b : Bool) → (a ≡ true → b ≡ true) → (b ≡ true → a ≡ true) → a ≡ b
same-tests true b there back = sym (there refl)
same-tests false true there back = back refl
same-tests false false there back = refl

pub to-Contains : (levels : List ℕ) (k : ℕ) → is_in levels k ≡ true → Contains levels k
to-Contains levels k member =
    let any = Any-from_list_any (λ l. l == k) levels member in
    let is : any.1 ≡ k = eqb-true any.1 k any.4 in
    let P : ℕ → Type 0 = λ x. get_or levels any.0 x ≡ x in
    (any.0, any.2, subst P is any.3)

pub from-Contains : (levels : List ℕ) (k : ℕ) → Contains levels k → is_in levels k ≡ true
from-Contains levels k at = list_any_at (λ l. l == k) levels at.0 k at.1 (eq-eqb (get_or levels at.0 k) k at.2)

-- a member's place
pub place : (levels : List ℕ) (k : ℕ) → is_in levels k ≡ true → (i : ℕ) × (i < length levels) × (get_or levels i 0 ≡ k)
place levels k member =
    let at = to-Contains levels k member in
    (at.0, at.1, get_or_from_slice_get levels at.0 k 0 (slice_get-get_or levels at.0 k at.1 ∙ ap Some at.2))

pub at-place : (levels : List ℕ) (i k : ℕ) → i < length levels → get_or levels i 0 ≡ k → is_in levels k ≡ true
at-place levels i k within is = list_any_at (λ l. l == k) levels i 0 within (eq-eqb (get_or levels i 0) k is)

-- sorted and without repeats
pub is_in-dedup : (given sorted : List ℕ) → IsPermutation given sorted → (k : ℕ) → is_in (dedup (λ x y. x == y) sorted) k ≡ is_in given k
is_in-dedup given sorted moved k =
    same-tests (is_in (dedup (λ x y. x == y) sorted) k) (is_in sorted k)
    (λ left. from-Contains sorted k (Contains-from_dedup (λ x y. x == y) sorted k (to-Contains (dedup (λ x y. x == y) sorted) k left)))
    (λ there. from-Contains (dedup (λ x y. x == y) sorted) k (Contains-dedup_nat sorted k (to-Contains sorted k there)))
    ∙ sym (list_any-IsPermutation (λ l. l == k) given sorted moved)

module _ (levels : List ℕ) (rises : IsStrictlyIncreasing levels) where
  pub rising : (i j : ℕ) → i ≤ j → j < length levels → get_or levels i 0 ≤ get_or levels j 0
  rising i j le within = by (cases_lt i j)
    where
      by : (i < j) ⊎ (j ≤ i) → get_or levels i 0 ≤ get_or levels j 0
      by (inl less) = let below = AllPairs-from_increasing levels rises i j 0 less within in omega (arith, below)
      by (inr more) = let same : i ≡ j = omega arith in let equal = ap (λ p. get_or levels p 0) same in omega (arith, equal)

  -- what a binary search tells
  pub searched-is_in : (x : ℕ) (r : Result ℕ ℕ) → MatchResult r (λ i. (i < length levels) × (get_or levels i 0 ≡ x)) (λ i. (i ≤ length levels) × ((k : ℕ) → k < i → get_or levels k 0 < x) × ((k : ℕ) → i ≤ k → k < length levels → x < get_or levels k 0)) → is_ok r ≡ is_in levels x
  searched-is_in x (Ok i) found = sym (at-place levels i x found.0 found.1)
  searched-is_in x (Err i) gap = sym (false_from_ne_true (is_in levels x) (λ member.
      let at = place levels x member in
      by at.0 at.1 at.2 (cases_lt at.0 i)))
    where
      by : (k : ℕ) → k < length levels → get_or levels k 0 ≡ x → (k < i) ⊎ (i ≤ k) → ⊥
      by k within is (inl before) = let less = gap.1 k before in omega (arith, less, is)
      by k within is (inr after) = let more = gap.2 k after within in omega (arith, more, is)

  -- a level reaches down to the set where it stands no lower than the last
  pub reaches-last : (level last : ℕ) → slice_get levels (length levels - 1) ≡ Some last → (level ≤ last) ↔ ((k : ℕ) × (is_in levels k ≡ true) × (level ≤ k))
  reaches-last level last is =
      let within = slice_get_within levels (length levels - 1) last is in
      let at = get_or_from_slice_get levels (length levels - 1) last 0 is in (
        λ above. (last, at-place levels (length levels - 1) last within at, above),
        λ some.
            let member = place levels some.0 some.1 in
            let high = rising member.0 (length levels - 1) (omega (arith, member.1)) within in
            omega (arith, high, at, member.2, some.2),
      )
