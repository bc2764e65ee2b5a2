-- Consecutive levels.
use Rattle.std.proofs.Common.{◌≡◌, ◌==◌, ◌+◌, ◌<◌, ◌≤◌, ◌∙◌, ◌-◌, ◌++◌, ℕ, zero, suc, true, List, [], ◌∷◌, refl, sym, ap, inl, inr, arith}
use Rattle.std.specs.List.{range_with_len}
use Rattle.std.specs.List.Sorted.{IsStrictlyIncreasing}
use Rattle.std.proofs.lemmas.Bool.{cases_eq, eqb-true, eq-eqb, or_cases, or_left, or_right, false≢true}
use Rattle.std.proofs.lemmas.List.Kept.{AllPairs-from_increasing}
use Rattle.bdd_ops.specs.Levels.{is_in, IsSetOf}
use Rattle.bdd_ops.proofs.Members.{same-tests, place}

-- which levels they are
pub in-range : (n first k : ℕ) → first ≤ k → k < first + n → is_in (range_with_len first n) k ≡ true
in-range zero first k low high = absurd (omega (arith, low, high))
in-range (suc n) first k low high =
    elim (cases_eq first k) [
      | inl here ↦ or_left (first == k) (is_in (range_with_len (first + 1) n) k) (eq-eqb first k here)
      | inr apart ↦ or_right (first == k) (is_in (range_with_len (first + 1) n) k) (in-range n (first + 1) k (omega (arith, low, apart)) (omega (arith, high)))
    ]

pub range-in : (n first k : ℕ) → is_in (range_with_len first n) k ≡ true → (first ≤ k) × (k < first + n)
range-in zero first k member = absurd (false≢true member)
range-in (suc n) first k member =
    elim (or_cases (first == k) (is_in (range_with_len (first + 1) n) k) member) [
      | inl here ↦ let is = eqb-true first k here in (omega (arith, is), omega (arith, is))
      | inr later ↦ let rest = range-in n (first + 1) k later in (omega (arith, rest.0), omega (arith, rest.1))
    ]

-- a rising list goes on above its head
above-head : (x : ℕ) (xs : List ℕ) → IsStrictlyIncreasing (x ∷ xs) → (k : ℕ) → is_in xs k ≡ true → x < k
above-head x xs rises k member =
    let at = place xs k member in
    let more = AllPairs-from_increasing (x ∷ xs) rises 0 (suc at.0) 0 (omega arith) (omega (arith, at.1)) in
    omega (arith, more, at.2)

tail-rises : (x : ℕ) (xs : List ℕ) → IsStrictlyIncreasing (x ∷ xs) → IsStrictlyIncreasing xs
tail-rises x xs rises k below = AllPairs-from_increasing (x ∷ xs) rises (suc k) (suc (k + 1)) 0 (omega arith) (omega (arith, below))

-- a rising list with just these levels
pub range-unique : (xs : List ℕ) (n first : ℕ) → IsStrictlyIncreasing xs → ((k : ℕ) → is_in xs k ≡ is_in (range_with_len first n) k) → xs ≡ range_with_len first n
range-unique [] zero first rises same = refl
range-unique [] (suc n) first rises same = absurd (false≢true (same first ∙ in-range (suc n) first first (omega arith) (omega arith)))
range-unique (x ∷ xs) zero first rises same =
    absurd (false≢true (sym (same x) ∙ or_left (x == x) (is_in xs x) (eq-eqb x x refl)))
range-unique (x ∷ xs) (suc n) first rises same =
    let low = range-in (suc n) first x (sym (same x) ∙ or_left (x == x) (is_in xs x) (eq-eqb x x refl)) in
    let is : x ≡ first =
    elim (or_cases (x == first) (is_in xs first) (same first ∙ in-range (suc n) first first (omega arith) (omega arith))) [
      | inl here ↦ eqb-true x first here
      | inr later ↦ let more = above-head x xs rises first later in absurd (omega (arith, more, low.0))
    ] in
    let rest : xs ≡ range_with_len (first + 1) n =
    range-unique xs n (first + 1) (tail-rises x xs rises)
    (λ k. same-tests (is_in xs k) (is_in (range_with_len (first + 1) n) k)
    (λ member.
    let more = above-head x xs rises k member in
    let within = range-in (suc n) first k (sym (same k) ∙ or_right (x == k) (is_in xs k) member) in
    in-range n (first + 1) k (omega (arith, more, low.0)) (omega (arith, within.1)))
    (λ member.
    let within = range-in n (first + 1) k member in
    elim (or_cases (x == k) (is_in xs k) (same k ∙ in-range (suc n) first k (omega (arith, within.0)) (omega (arith, within.1)))) [
      | inl here ↦ let e = eqb-true x k here in absurd (omega (arith, e, is, within.0))
      | inr later ↦ later
    ])) in
    λ i. is i ∷ rest i

-- the set of consecutive levels is their list
pub set-of-range : {given levels : List ℕ} (n first : ℕ) → given ≡ range_with_len first n → IsSetOf given levels → levels ≡ range_with_len first n
set-of-range {given} {levels} n first is set = range-unique levels n first set.rises (λ k. set.same k ∙ ap (λ l. is_in l k) is)

range-suc : (n first : ℕ) → range_with_len first (suc n) ≡ range_with_len first n ++ ((first + n) ∷ [])
range-suc zero first = let same : first ≡ first + 0 = omega arith in λ i. same i ∷ []
range-suc (suc n) first =
    let same : first + 1 + n ≡ first + suc n = omega arith in
    ap (λ levels. first ∷ levels) (range-suc n (first + 1) ∙ ap (λ l. range_with_len (first + 1) n ++ l ∷ []) same)

-- one level more
pub range-next : (first level : ℕ) → first ≤ level → range_with_len first (level + 1 - first) ≡ range_with_len first (level - first) ++ level ∷ []
range-next first level low =
    let longer : level + 1 - first ≡ suc (level - first) = omega (arith, low) in
    let last : first + (level - first) ≡ level = omega (arith, low) in
    ap (range_with_len first) longer ∙ range-suc (level - first) first ∙ ap (λ l. range_with_len first (level - first) ++ l ∷ []) last
