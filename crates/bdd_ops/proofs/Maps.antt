-- Where a rising map takes levels.
use Rattle.std.proofs.Common.{◌≡◌, ◌==◌, ◌||◌, ◌<◌, ◌≤◌, ◌⊎◌, ℕ, zero, suc, Bool, true, false, if◌then◌else◌, List, [], ◌∷◌, length, get_or, Result, Ok, Err, IfOk, IfErr, refl, sym, ap, ◌∙◌, inl, inr, arith}
use Rattle.std.specs.List.Sorted.{IsSearchInRange, IsBinarySearchResult, IsNonDecreasingBy}
use Rattle.std.specs.Ordering.{nat_cmp, ordering_index}
use Rattle.std.proofs.lemmas.Bool.{eqb-true, eq-eqb, true≢false, cases_lt, false_from_ne_true}
use Rattle.std.proofs.lemmas.Bool.Decides.{nat_tests}
use Rattle.std.proofs.lemmas.Cmp.{ranked}
use Rattle.std.proofs.lemmas.List.Elements.{All-head, All-tail}
use Rattle.std.proofs.lemmas.List.Sorted.{IsNonDecreasingBy-from_default}
use Rattle.node_table.specs.Table.{Bits}
use Rattle.bdd_ops.specs.Levels.{is_in, sources, target_or, renamed, IsRisingMap, TargetsWithin}

-- where a source stands
source-place : (pairs : List (ℕ × ℕ)) (k : ℕ) → is_in (sources pairs) k ≡ true → (i : ℕ) × (i < length pairs) × ((d : ℕ × ℕ) → (get_or pairs i d).0 ≡ k)
source-place [] k member = absurd (true≢false (sym member))
source-place (p ∷ pairs) k member = by (p.0 == k) refl (λ rest. source-place pairs k rest)
  where
    by : (b : Bool) → (p.0 == k) ≡ b → (is_in (sources pairs) k ≡ true → (i : ℕ) × (i < length pairs) × ((d : ℕ × ℕ) → (get_or pairs i d).0 ≡ k)) → (i : ℕ) × (i < length (p ∷ pairs)) × ((d : ℕ × ℕ) → (get_or (p ∷ pairs) i d).0 ≡ k)
    by true here rest = (0, omega arith, λ d. eqb-true p.0 k here)
    by false other rest =
        let later = rest (sym (ap (λ b. b || is_in (sources pairs) k) other) ∙ member) in (suc later.0, omega (arith, later.1), later.2)

-- the first pair stands above the others, and so do they
abbrev Rises : List (ℕ × ℕ) → Type 0
Rises [] = Unit {0}
Rises (p ∷ pairs) = ((k : ℕ) → is_in (sources pairs) k ≡ true → (p.0 < k) × ((other : ℕ) → p.1 < target_or other pairs k)) × Rises pairs

-- the pair at a place is what the map does to its source
at-source : (pairs : List (ℕ × ℕ)) → Rises pairs → (i k : ℕ) → i < length pairs → (get_or pairs i (0, 0)).0 ≡ k → (is_in (sources pairs) k ≡ true) × ((other : ℕ) → target_or other pairs k ≡ (get_or pairs i (0, 0)).1)
at-source [] rise i k within is = absurd (omega arith)
at-source (p ∷ pairs) rise zero k within is = (
  ap (λ b. b || is_in (sources pairs) k) (eq-eqb p.0 k is),
  λ other. ap (λ b. if b then p.1 else target_or other pairs k) (eq-eqb k p.0 (sym is)),
)
at-source (p ∷ pairs) rise (suc i) k within is =
    let later = at-source pairs rise.1 i k (omega arith) is in
    let above : p.0 < k = (rise.0 k later.0).0 in (
      ap (λ b. b || is_in (sources pairs) k) (false_from_ne_true (p.0 == k) (λ e. let same = eqb-true p.0 k e in omega (arith, same, above))) ∙ later.0,
      λ other.
          ap (λ b. if b then p.1 else target_or other pairs k) (false_from_ne_true (k == p.0) (λ e. let same = eqb-true k p.0 e in omega (arith, same, above)))
          ∙ later.1 other,
    )

rises : (pairs : List (ℕ × ℕ)) → IsRisingMap pairs → Rises pairs
rises [] rising = tt
rises (p ∷ pairs) rising =
    let rest : IsRisingMap pairs = λ i j d less within. rising (suc i) (suc j) d (omega arith) (omega arith) in
    let later : Rises pairs = rises pairs rest in (
      λ k member.
          let at = source-place pairs k member in
          let above : (p.0 < (get_or pairs at.0 (0, 0)).0) × (p.1 < (get_or pairs at.0 (0, 0)).1) = rising 0 (suc at.0) (0, 0) (omega arith) (omega (arith, at.1)) in
          let target = (at-source pairs later at.0 k at.1 (at.2 (0, 0))).1 in
          (omega (arith, above.0, at.2 (0, 0)), λ other. omega (arith, above.1, target other)),
      later,
    )

module _ (pairs : List (ℕ × ℕ)) (rising : IsRisingMap pairs) where
  -- the place that a search found
  pub at-place : (i k : ℕ) → i < length pairs → (get_or pairs i (0, 0)).0 ≡ k → (other : ℕ) → target_or other pairs k ≡ (get_or pairs i (0, 0)).1
  at-place i k within is = (at-source pairs (rises pairs rising) i k within is).1

  keys-rise : (i j : ℕ) → i ≤ j → j < length pairs → (get_or pairs i (0, 0)).0 ≤ (get_or pairs j (0, 0)).0
  keys-rise i j le within = by (cases_lt i j)
    where
      by : (i < j) ⊎ (j ≤ i) → (get_or pairs i (0, 0)).0 ≤ (get_or pairs j (0, 0)).0
      by (inl less) = let below = (rising i j (0, 0) less within).0 in omega (arith, below)
      by (inr more) = let same : i ≡ j = omega arith in let equal = ap (λ q. (get_or pairs q (0, 0)).0) same in omega (arith, equal)

  comparisons-rise : (k : ℕ) → IsNonDecreasingBy (λ p. ordering_index (nat_cmp p.0 k)) pairs
  comparisons-rise k = IsNonDecreasingBy-from_default (λ p. ordering_index (nat_cmp p.0 k)) pairs (0, 0) (λ i j le within.
      let below : (get_or pairs i (0, 0)).0 ≤ (get_or pairs j (0, 0)).0 = keys-rise i j le within in
      grind (arith, nat_tests))

  -- what a binary search by the source tells
  pub searched-place : (k : ℕ) (r : Result ℕ ℕ) → IsSearchInRange r (length pairs) → IsBinarySearchResult (λ p. nat_cmp p.0 k) pairs r → IfOk r (λ i. (i < length pairs) × ((get_or pairs i (0, 0)).0 ≡ k)) × IfErr r (λ i. is_in (sources pairs) k ≡ false)
  searched-place k (Ok i) within equal = ((within, ranked (get_or pairs i (0, 0)).0 k _ (sym (equal (0, 0)))), tt)
  searched-place k (Err i) within parted = (
    tt,
    false_from_ne_true (is_in (sources pairs) k) (λ member.
        let at = source-place pairs k member in
        by at.0 at.1 (at.2 (0, 0)) (cases_lt at.0 i)),
  )
    where
      by : (j : ℕ) → j < length pairs → (get_or pairs j (0, 0)).0 ≡ k → (j < i) ⊎ (i ≤ j) → ⊥
      by j inside is (inl before) =
          let less : (get_or pairs j (0, 0)).0 < k = ranked (get_or pairs j (0, 0)).0 k _ (sym ((parted (comparisons-rise k)).0 j (0, 0) (omega arith) before)) in
          omega (arith, less, is)
      by j inside is (inr after) =
          let more : k < (get_or pairs j (0, 0)).0 = ranked (get_or pairs j (0, 0)).0 k _ (sym ((parted (comparisons-rise k)).1 j (0, 0) after inside)) in
          omega (arith, more, is)

-- a source is read at its target
pub renamed-source : (pairs : List (ℕ × ℕ)) (k other : ℕ) → is_in (sources pairs) k ≡ true → (bits : Bits) → renamed pairs bits k ≡ bits (target_or other pairs k)
renamed-source [] k other member bits = absurd (true≢false (sym member))
renamed-source (p ∷ pairs) k other member bits = by (k == p.0) refl (λ rest. renamed-source pairs k other rest bits)
  where
    by : (b : Bool) → (k == p.0) ≡ b → (is_in (sources pairs) k ≡ true → renamed pairs bits k ≡ bits (target_or other pairs k)) → renamed (p ∷ pairs) bits k ≡ bits (target_or other (p ∷ pairs) k)
    by true here rest = ap (λ b. if b then bits p.1 else renamed pairs bits k) here ∙ sym (ap (λ b. bits (if b then p.1 else target_or other pairs k)) here)
    by false away rest =
        let apart : (p.0 == k) ≡ false = false_from_ne_true (p.0 == k) (λ e. true≢false (sym (eq-eqb k p.0 (sym (eqb-true p.0 k e))) ∙ away)) in
        ap (λ b. if b then bits p.1 else renamed pairs bits k) away
        ∙ rest (sym (ap (λ b. b || is_in (sources pairs) k) apart) ∙ member)
        ∙ sym (ap (λ b. bits (if b then p.1 else target_or other pairs k)) away)

module _ (levels : ℕ) where
  -- no target stands below the levels
  pub target-within : (pairs : List (ℕ × ℕ)) → TargetsWithin levels pairs → (k : ℕ) → target_or levels pairs k ≤ levels
  target-within [] within k = omega arith
  target-within (p ∷ pairs) within k =
      elim (k == p.0) as (λ b. (if b then p.1 else target_or levels pairs k) ≤ levels) [
        | true ↦ let head : p.1 < levels = All-head (λ q. q.1 < levels) p pairs within in omega (arith, head)
        | false ↦ target-within pairs (All-tail (λ q. q.1 < levels) p pairs within) k
      ]

  -- the target of a source is a level
  pub target-source : (pairs : List (ℕ × ℕ)) → TargetsWithin levels pairs → (k : ℕ) → is_in (sources pairs) k ≡ true → target_or levels pairs k < levels
  target-source [] within k member = absurd (true≢false (sym member))
  target-source (p ∷ pairs) within k member = by (k == p.0) refl (λ rest. target-source pairs (All-tail (λ q. q.1 < levels) p pairs within) k rest)
    where
      by : (b : Bool) → (k == p.0) ≡ b → (is_in (sources pairs) k ≡ true → target_or levels pairs k < levels) → target_or levels (p ∷ pairs) k < levels
      by true here rest =
          let at : target_or levels (p ∷ pairs) k ≡ p.1 = ap (λ b. if b then p.1 else target_or levels pairs k) here in
          let head : p.1 < levels = All-head (λ q. q.1 < levels) p pairs within in
          omega (arith, at, head)
      by false away rest =
          let apart : (p.0 == k) ≡ false = false_from_ne_true (p.0 == k) (λ e. true≢false (sym (eq-eqb k p.0 (sym (eqb-true p.0 k e))) ∙ away)) in
          let at : target_or levels (p ∷ pairs) k ≡ target_or levels pairs k = ap (λ b. if b then p.1 else target_or levels pairs k) away in
          let later = rest (sym (ap (λ b. b || is_in (sources pairs) k) apart) ∙ member) in
          omega (arith, at, later)

  -- what is no source goes nowhere
  target-other : (pairs : List (ℕ × ℕ)) (k : ℕ) → is_in (sources pairs) k ≡ false → target_or levels pairs k ≡ levels
  target-other [] k out = refl
  target-other (p ∷ pairs) k out = by (k == p.0) refl (λ rest. target-other pairs k rest)
    where
      by : (b : Bool) → (k == p.0) ≡ b → (is_in (sources pairs) k ≡ false → target_or levels pairs k ≡ levels) → target_or levels (p ∷ pairs) k ≡ levels
      by true here rest = absurd (true≢false (sym (ap (λ b. b || is_in (sources pairs) k) (eq-eqb p.0 k (sym (eqb-true k p.0 here)))) ∙ out))
      by false away rest =
          let apart : (p.0 == k) ≡ false = false_from_ne_true (p.0 == k) (λ e. true≢false (sym (eq-eqb k p.0 (sym (eqb-true p.0 k e))) ∙ away)) in
          ap (λ b. if b then p.1 else target_or levels pairs k) away
          ∙ rest (sym (ap (λ b. b || is_in (sources pairs) k) apart) ∙ out)

  -- a source stays above the levels below it
  targets-rise : (pairs : List (ℕ × ℕ)) → Rises pairs → TargetsWithin levels pairs → (k j : ℕ) → is_in (sources pairs) k ≡ true → k < j → target_or levels pairs k < target_or levels pairs j
  targets-rise [] rise within k j member less = absurd (true≢false (sym member))
  targets-rise (p ∷ pairs) rise within k j member less =
      by (k == p.0) refl (λ rest. targets-rise pairs rise.1 (All-tail (λ q. q.1 < levels) p pairs within) k j rest less)
    where
      first : p.1 < levels
      first = All-head (λ q. q.1 < levels) p pairs within

      -- the target of a level below the first source
      below : (b : Bool) → is_in (sources pairs) j ≡ b → p.1 < target_or levels pairs j
      below true inside = (rise.0 j inside).1 levels
      below false out = let is = target-other pairs j out in omega (arith, first, is)

      past : p.0 < j → target_or levels (p ∷ pairs) j ≡ target_or levels pairs j
      past lower = ap (λ b. if b then p.1 else target_or levels pairs j) (false_from_ne_true (j == p.0) (λ e. let same = eqb-true j p.0 e in omega (arith, same, lower)))

      by : (b : Bool) → (k == p.0) ≡ b → (is_in (sources pairs) k ≡ true → target_or levels pairs k < target_or levels pairs j) → target_or levels (p ∷ pairs) k < target_or levels (p ∷ pairs) j
      by true here rest =
          let at : target_or levels (p ∷ pairs) k ≡ p.1 = ap (λ b. if b then p.1 else target_or levels pairs k) here in
          let is = eqb-true k p.0 here in
          let to = past (omega (arith, is, less)) in
          let lower = below (is_in (sources pairs) j) refl in
          omega (arith, at, to, lower)
      by false away rest =
          let apart : (p.0 == k) ≡ false = false_from_ne_true (p.0 == k) (λ e. true≢false (sym (eq-eqb k p.0 (sym (eqb-true p.0 k e))) ∙ away)) in
          let inside : is_in (sources pairs) k ≡ true = sym (ap (λ b. b || is_in (sources pairs) k) apart) ∙ member in
          let above : p.0 < k = (rise.0 k inside).0 in
          let at : target_or levels (p ∷ pairs) k ≡ target_or levels pairs k = ap (λ b. if b then p.1 else target_or levels pairs k) away in
          let to = past (omega (arith, above, less)) in
          let lower = rest inside in
          omega (arith, at, to, lower)

  pub target-rises : (pairs : List (ℕ × ℕ)) → IsRisingMap pairs → TargetsWithin levels pairs → (k j : ℕ) → is_in (sources pairs) k ≡ true → k < j → target_or levels pairs k < target_or levels pairs j
  target-rises pairs rising within k j member less = targets-rise pairs (rises pairs rising) within k j member less
