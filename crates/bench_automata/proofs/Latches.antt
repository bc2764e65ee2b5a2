-- The levels of latches, and the order that they stand in.
use Rattle.std.proofs.Common.{◌≡◌, ◌==◌, ◌+◌, ◌-◌, ◌*◌, ◌<◌, ◌≤◌, ◌∙◌, ◌++◌, ◌∷◌, [], ℕ, zero, suc, Bool, true, if◌then◌else◌, List, length, get_or, All, refl, sym, ap, subst, inl, inr, arith}
use Rattle.std.specs.List.{range_with_len}
use Rattle.std.proofs.lemmas.List.FromFn.{length-range_with_len, get_or-range_with_len}
use Rattle.std.proofs.lemmas.Bool.{eqb-true, eq-eqb, or_cases, or_left, or_right, false≢true, false_from_ne_true}
use Rattle.node_table.specs.Table.{Table, IsConstant, Makes}
use Rattle.bdd_ops.specs.Levels.{is_in, sources, IsRisingMap}
use Rattle.bdd_ops.specs.Meaning.{DependsOn}
use Rattle.mv_encoding.proofs.Ranges.{range-in, range-next}
use Rattle.subset_build.specs.Relations.{present_of, AreInOrder, Reads}
use Rattle.bench_automata.specs.Registers.{latch_levels}

pub latch-len : (first n : ℕ) → length (latch_levels first n) ≡ n
latch-len first zero = refl
latch-len first (suc n) = ap suc (latch-len (first + 2) n)

-- one latch more
pub latch-more : (first n : ℕ) → latch_levels first (suc n) ≡ latch_levels first n ++ (first + 2 * n + 1, first + 2 * n) ∷ []
latch-more first zero = let same : first ≡ first + 2 * 0 = omega arith in λ i. (same i + 1, same i) ∷ []
latch-more first (suc n) =
    let same : first + 2 + 2 * n ≡ first + 2 * suc n = omega arith in
    ap (λ pairs. (first + 1, first) ∷ pairs) (latch-more (first + 2) n ∙ ap (λ l. latch_levels (first + 2) n ++ (l + 1, l) ∷ []) same)

pub latch-at : (first n i : ℕ) (d : ℕ × ℕ) → i < n → get_or (latch_levels first n) i d ≡ (first + 2 * i + 1, first + 2 * i)
latch-at first zero i d within = absurd (omega arith)
latch-at first (suc n) zero d within = let same : first ≡ first + 2 * 0 = omega arith in λ i. (same i + 1, same i)
latch-at first (suc n) (suc i) d within =
    let same : first + 2 + 2 * i ≡ first + 2 * suc i = omega arith in
    latch-at (first + 2) n i d (omega arith) ∙ ap (λ l. (l + 1, l)) same

-- a level of a next bit
pub in-next : (first n k : ℕ) → is_in (sources (latch_levels first n)) k ≡ true → (j : ℕ) × (j < n) × (k ≡ first + 2 * j + 1)
in-next first zero k member = absurd (false≢true member)
in-next first (suc n) k member =
    elim (or_cases ((first + 1) == k) (is_in (sources (latch_levels (first + 2) n)) k) member) [
      | inl here ↦ let is = eqb-true (first + 1) k here in (0, omega arith, omega (arith, is))
      | inr later ↦ let rest = in-next (first + 2) n k later in (suc rest.0, omega (arith, rest.1), omega (arith, rest.2))
    ]

-- a level of a present bit
pub in-present : (first n k : ℕ) → is_in (present_of (latch_levels first n)) k ≡ true → (j : ℕ) × (j < n) × (k ≡ first + 2 * j)
in-present first zero k member = absurd (false≢true member)
in-present first (suc n) k member =
    elim (or_cases (first == k) (is_in (present_of (latch_levels (first + 2) n)) k) member) [
      | inl here ↦ let is = eqb-true first k here in (0, omega arith, omega (arith, is))
      | inr later ↦ let rest = in-present (first + 2) n k later in (suc rest.0, omega (arith, rest.1), omega (arith, rest.2))
    ]

pub is-present : (first n j : ℕ) → j < n → is_in (present_of (latch_levels first n)) (first + 2 * j) ≡ true
is-present first zero j within = absurd (omega arith)
is-present first (suc n) zero within = or_left (first == (first + 2 * 0)) (is_in (present_of (latch_levels (first + 2) n)) (first + 2 * 0)) (eq-eqb first (first + 2 * 0) (omega arith))
is-present first (suc n) (suc j) within =
    let same : first + 2 + 2 * j ≡ first + 2 * suc j = omega arith in
    or_right (first == (first + 2 * suc j)) (is_in (present_of (latch_levels (first + 2) n)) (first + 2 * suc j)) (subst (λ l. is_in (present_of (latch_levels (first + 2) n)) l ≡ true) same (is-present (first + 2) n j (omega arith)))

-- the letter stands above the latches, and the next bit of each just below its present one
pub in-order : (levels letters n : ℕ) → letters + 2 * n ≤ levels → AreInOrder levels (range_with_len 0 letters) (latch_levels letters n)
in-order levels letters n few = record {
  rises = rises;
  keep_within = keep_within;
  state_within = state_within;
  apart = λ k next. false_from_ne_true (is_in (present_of (latch_levels letters n)) k) (λ present. let a = in-next letters n k next in let b = in-present letters n k present in absurd (omega (arith, a.2, b.2)));
  above_next = λ k l letter next. let a = range-in letters 0 k letter in let b = in-next letters n l next in omega (arith, a.1, b.2);
  above_present = λ k l letter present. let a = range-in letters 0 k letter in let b = in-present letters n l present in omega (arith, a.1, b.2);
}
  where
    rises : IsRisingMap (latch_levels letters n)
    rises i j d less within =
        let low : j < n = omega (arith, within, latch-len letters n) in
        rw (latch-at letters n i d (omega (arith, low, less)), latch-at letters n j d low) (omega (arith, less), omega (arith, less))

    keep_within : All (λ k. k < levels) (range_with_len 0 letters)
    keep_within k d within =
        let low : k < letters = omega (arith, within, length-range_with_len 0 letters) in
        omega (arith, get_or-range_with_len 0 letters k d low, low, few)

    state_within : All (λ p. (p.0 < levels) × (p.1 < levels)) (latch_levels letters n)
    state_within i d within =
        let low : i < n = omega (arith, within, latch-len letters n) in
        rw (latch-at letters n i d low) (omega (arith, low, few), omega (arith, low, few))

-- a constant is a set of letters, and of states
pub reads-constant : (t : Table) (levels : List ℕ) (bit : Bool) (r : ℕ) → IsConstant t bit r → Reads t levels r
reads-constant t levels bit r is = record { valid = is.valid; depends = λ u v same. is.value u ∙ sym (is.value v) }

-- so is a node that asks one of the levels over sets of states
pub reads-node : {old new : Table} {levels : List ℕ} {level lo hi r : ℕ} → Makes old new level lo hi r → is_in levels level ≡ true → DependsOn old levels lo → DependsOn old levels hi → Reads new levels r
reads-node {old} {new} {levels} {level} {lo} {hi} {r} made member low high = record {
  valid = made.valid;
  depends = λ u v same. made.value u ∙ (λ i. if same level member i then high u v same i else low u v same i) ∙ sym (made.value v);
}

-- one level of the letter more
pub letters-more : (n : ℕ) → range_with_len 0 (n + 1) ≡ range_with_len 0 n ++ n ∷ []
letters-more n =
    let more : n + 1 ≡ n + 1 - 0 = omega arith in
    let all : n - 0 ≡ n = omega arith in
    ap (range_with_len 0) more ∙ range-next 0 n (omega arith) ∙ ap (λ m. range_with_len 0 m ++ n ∷ []) all

-- one latch more, by the number of them
pub latches-more : (first n : ℕ) → latch_levels first (n + 1) ≡ latch_levels first n ++ (first + 2 * n + 1, first + 2 * n) ∷ []
latches-more first n = let more : n + 1 ≡ suc n = omega arith in ap (latch_levels first) more ∙ latch-more first n
