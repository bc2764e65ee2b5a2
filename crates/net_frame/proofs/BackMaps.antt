-- The maps from next values to present ones.
use Rattle.std.proofs.Common.{◌≡◌, ◌==◌, ◌+◌, ◌<◌, ◌≤◌, ◌∙◌, inl, inr, ℕ, zero, suc, true, false, cond, nat_eq, List, [], ◌∷◌, ◌++◌, map, length, refl, sym, ap, subst, arith}
use Rattle.std.specs.Prelude.{All}
use Rattle.std.specs.List.{list_any, flat_map, range_with_len, AllByRecursion, AllPairs}
use Rattle.std.proofs.lemmas.Bool.{false≢true, cases_eq, or_cases, or_from, or_left, or_parts, eqb-true, eq-eqb, ne_eqb, false_from_ne_true}
use Rattle.std.proofs.lemmas.List.{map-append, append-nil}
use Rattle.std.proofs.lemmas.List.Concat.{flat_map-append}
use Rattle.std.proofs.lemmas.List.Elements.{All-from_recursion, recursion_from_All}
use Rattle.std.proofs.lemmas.List.Folds.{list_any-append}
use Rattle.name_table.specs.CodeBits.{bits_of, bits_in}
use Rattle.name_table.specs.ScopeVars.{variable_at}
use Rattle.name_table.specs.Variables.{Variable}
use Rattle.node_table.specs.Table.{Bits}
use Rattle.bdd_ops.specs.Levels.{is_in, sources, renamed}
use Rattle.net_model.specs.Nets.{Net}
use Rattle.net_model.specs.Conditions.{latch_outputs}
use Rattle.net_problem.specs.ProblemBits.{own_of, own_before, own_scope}
use Rattle.net_problem.proofs.BitSums.{own-next}
use Rattle.net_model.proofs.Counting.{range-suc}
use Rattle.net_frame.specs.Placing.{targets}
use Rattle.net_frame.specs.Frames.{own_level, back_at, latch_back, back_from}
use Rattle.net_frame.proofs.Among.{each-weaker}
use Rattle.net_frame.proofs.Pairwise.{all-range, pairs-range, pairs-nil, pairs-append}
use Rattle.net_frame.proofs.Summed.{own-latch, own-behind}

abbrev Rises : (ℕ × ℕ) → (ℕ × ℕ) → Type 0
Rises p q = (p.0 < q.0) × (p.1 < q.1)

abbrev LiesWithin : ℕ → ℕ → (ℕ × ℕ) → Type 0
LiesWithin low high p = (low ≤ p.0) × (p.0 < high) × (low ≤ p.1) × (p.1 < high)

-- the map rises, stays within these levels, and takes none to one that it takes elsewhere
pub record IsBackOn (low high : ℕ) (pairs : List (ℕ × ℕ)) : Type 0 where
  pub within : AllByRecursion (LiesWithin low high) pairs
  pub rises : AllPairs Rises pairs
  pub apart : (k : ℕ) → is_in (sources pairs) k ≡ true → is_in (targets pairs) k ≡ false

-- where the levels of one side are
side-within : (side : (ℕ × ℕ) → ℕ) (low high : ℕ) (pairs : List (ℕ × ℕ)) → AllByRecursion (λ p. (low ≤ side p) × (side p < high)) pairs → (k : ℕ) → is_in (map side pairs) k ≡ true → (low ≤ k) × (k < high)
side-within side low high [] all k member = absurd (false≢true member)
side-within side low high (p ∷ pairs) all k member =
    elim (or_cases (side p == k) (is_in (map side pairs) k) member) [
      | inl here ↦ let is = eqb-true (side p) k here in (omega (arith, is, all.0.0), omega (arith, is, all.0.1))
      | inr later ↦ side-within side low high pairs all.1 k later
    ]

pub sources-within : (low high : ℕ) (pairs : List (ℕ × ℕ)) → AllByRecursion (LiesWithin low high) pairs → (k : ℕ) → is_in (sources pairs) k ≡ true → (low ≤ k) × (k < high)
sources-within low high pairs all k member =
    side-within (λ p. p.0) low high pairs (each-weaker (LiesWithin low high) (λ p. (low ≤ p.0) × (p.0 < high)) (λ p h. (h.0, h.1)) pairs all) k member

targets-within : (low high : ℕ) (pairs : List (ℕ × ℕ)) → AllByRecursion (LiesWithin low high) pairs → (k : ℕ) → is_in (targets pairs) k ≡ true → (low ≤ k) × (k < high)
targets-within low high pairs all k member =
    side-within (λ p. p.1) low high pairs (each-weaker (LiesWithin low high) (λ p. (low ≤ p.1) × (p.1 < high)) (λ p h. (h.2, h.3)) pairs all) k member

joined : (P : (ℕ × ℕ) → Type 0) (xs ys : List (ℕ × ℕ)) → AllByRecursion P xs → AllByRecursion P ys → AllByRecursion P (xs ++ ys)
joined P [] ys first second = second
joined P (x ∷ xs) ys first second = (first.0, joined P xs ys first.1 second)

-- no level of either part
neither-in : (side : (ℕ × ℕ) → ℕ) (xs ys : List (ℕ × ℕ)) (k : ℕ) → is_in (map side xs) k ≡ false → is_in (map side ys) k ≡ false → is_in (map side (xs ++ ys)) k ≡ false
neither-in side xs ys k one other =
    ap (λ ls. is_in ls k) (map-append side xs ys) ∙ list_any-append (λ l. l == k) (map side xs) (map side ys) ∙ or_from (is_in (map side xs) k) (is_in (map side ys) k) one other

-- one map behind another
pub back-append : (low mid high : ℕ) (xs ys : List (ℕ × ℕ)) → low ≤ mid → mid ≤ high → IsBackOn low mid xs → IsBackOn mid high ys → IsBackOn low high (xs ++ ys)
back-append low mid high xs ys lower higher first second = record {
  within = joined (LiesWithin low high) xs ys
      (each-weaker (LiesWithin low mid) (LiesWithin low high) (λ p h. (h.0, omega (arith, h.1, higher), h.2, omega (arith, h.3, higher))) xs first.within)
      (each-weaker (LiesWithin mid high) (LiesWithin low high) (λ p h. (omega (arith, h.0, lower), h.1, omega (arith, h.2, lower), h.3)) ys second.within);
  rises = pairs-append Rises xs ys first.rises second.rises
      (All-from_recursion (λ p. All (Rises p) ys) xs
      (each-weaker (LiesWithin low mid) (λ p. All (Rises p) ys)
      (λ p h. All-from_recursion (Rises p) ys (each-weaker (LiesWithin mid high) (Rises p) (λ q g. (omega (arith, h.1, g.0), omega (arith, h.3, g.2))) ys second.within))
      xs first.within));
  apart = λ k member.
      elim (or_cases (is_in (sources xs) k) (is_in (sources ys) k) (sym (ap (λ ls. is_in ls k) (map-append (λ (p : ℕ × ℕ). p.0) xs ys) ∙ list_any-append (λ l. l == k) (sources xs) (sources ys)) ∙ member)) [
        | inl here ↦
            let at = sources-within low mid xs first.within k here in
            neither-in (λ p. p.1) xs ys k (first.apart k here) (false_from_ne_true _ (λ there. let other = targets-within mid high ys second.within k there in omega (arith, at.1, other.0)))
        | inr later ↦
            let at = sources-within mid high ys second.within k later in
            neither-in (λ p. p.1) xs ys k (false_from_ne_true _ (λ there. let other = targets-within low mid xs first.within k there in omega (arith, at.0, other.1))) (second.apart k later)
      ];
}

pub back-none : (low high : ℕ) → IsBackOn low high []
back-none low high = record { within = tt; rises = pairs-nil Rises; apart = λ k member. absurd (false≢true member) }

-- the map of one latch
back-one : (v : Variable) (level high : ℕ) → level + bits_of v + bits_of v ≤ high → IsBackOn level high (back_at v level)
back-one v level high room =
    let b = bits_of v in
    let pair : ℕ → ℕ × ℕ = λ k. (level + b + k, level + k) in
    record {
      within = recursion_from_All (LiesWithin level high) (back_at v level) (all-range (LiesWithin level high) pair b (λ k below. (omega arith, omega (arith, below, room), omega arith, omega (arith, below, room))));
      rises = pairs-range Rises pair b (λ i j less below. (omega (arith, less), omega (arith, less)));
      apart = λ k member.
          let at = side-within (λ p. p.0) (level + b) (level + b + b) (back_at v level) (recursion_from_All (λ (p : ℕ × ℕ). (level + b ≤ p.0) × (p.0 < level + b + b)) (back_at v level) (all-range (λ (p : ℕ × ℕ). (level + b ≤ p.0) × (p.0 < level + b + b)) pair b (λ i below. (omega arith, omega (arith, below))))) k member in
          false_from_ne_true _ (λ there.
          let other = side-within (λ p. p.1) level (level + b) (back_at v level) (recursion_from_All (λ (p : ℕ × ℕ). (level ≤ p.1) × (p.1 < level + b)) (back_at v level) (all-range (λ (p : ℕ × ℕ). (level ≤ p.1) × (p.1 < level + b)) pair b (λ i below. (omega arith, omega (arith, below))))) k there in
          omega (arith, at.0, other.1));
    }

back-signal : (net : Net) (start signal : ℕ) → IsBackOn (own_level net start signal) (own_level net start signal + bits_in (own_of net signal)) (back_from net start signal)
back-signal net start signal =
    elim (list_any (nat_eq signal) (latch_outputs net)) as (λ b. list_any (nat_eq signal) (latch_outputs net) ≡ b → IsBackOn (own_level net start signal) (own_level net start signal + bits_in (own_of net signal)) (cond b (latch_back net start signal) [])) [
      | true ↦ λ is. let bits = own-latch net signal is in back-one (variable_at net.names signal) (own_level net start signal) (own_level net start signal + bits_in (own_of net signal)) (omega (arith, bits))
      | false ↦ λ is. back-none (own_level net start signal) (own_level net start signal + bits_in (own_of net signal))
    ] refl

-- the maps of the first signals
abbrev back_before : Net → ℕ → ℕ → List (ℕ × ℕ)
back_before net start signals = flat_map (back_from net start) (range_with_len 0 signals)

before-more : (net : Net) (start n : ℕ) → back_before net start (suc n) ≡ back_before net start n ++ back_from net start n
before-more net start n =
    let first : 0 + n ≡ n = omega arith in
    ap (flat_map (back_from net start)) (range-suc n 0 ∙ ap (λ k. range_with_len 0 n ++ k ∷ []) first)
    ∙ flat_map-append (back_from net start) (range_with_len 0 n) (n ∷ [])
    ∙ ap (λ pairs. back_before net start n ++ pairs) (append-nil (back_from net start n))

back-signals : (net : Net) (start n : ℕ) → IsBackOn start (own_level net start n) (back_before net start n)
back-signals net start zero = back-none start (own_level net start zero)
back-signals net start (suc n) =
    let next = own-next net n in
    let same : n + 1 ≡ suc n = omega arith in
    let is = ap (λ s. bits_in (own_before net s)) same in
    let end : own_level net start n + bits_in (own_of net n) ≡ own_level net start (suc n) = omega (arith, next, is) in
    subst (λ (pairs : List (ℕ × ℕ)). IsBackOn start (own_level net start (suc n)) pairs) (sym (before-more net start n))
    (subst (λ (high : ℕ). IsBackOn start high (back_before net start n ++ back_from net start n)) end
    (back-append start (own_level net start n) (own_level net start n + bits_in (own_of net n)) (back_before net start n) (back_from net start n) (omega arith) (omega arith) (back-signals net start n) (back-signal net start n)))

pub back-net : (net : Net) (start : ℕ) → IsBackOn start (start + bits_in (own_scope net)) (flat_map (back_from net start) (range_with_len 0 (length net.names)))
back-net net start = back-signals net start (length net.names)

-- what is read through the map

renamed-none : (pairs : List (ℕ × ℕ)) (bits : Bits) (k : ℕ) → is_in (sources pairs) k ≡ false → renamed pairs bits k ≡ bits k
renamed-none [] bits k none = refl
renamed-none (p ∷ pairs) bits k none =
    elim (k == p.0) as (λ b. (k == p.0) ≡ b → cond b (bits p.1) (renamed pairs bits k) ≡ bits k) [
      | true ↦ λ is. absurd (false≢true (sym none ∙ or_left (p.0 == k) (is_in (sources pairs) k) (eq-eqb p.0 k (sym (eqb-true k p.0 is)))))
      | false ↦ λ is. renamed-none pairs bits k (or_parts (p.0 == k) (is_in (sources pairs) k) none).1
    ] refl

renamed-front : (xs ys : List (ℕ × ℕ)) (bits : Bits) (k : ℕ) → is_in (sources ys) k ≡ false → renamed (xs ++ ys) bits k ≡ renamed xs bits k
renamed-front [] ys bits k none = renamed-none ys bits k none
renamed-front (p ∷ xs) ys bits k none = let rest = renamed-front xs ys bits k none in λ i. cond (k == p.0) (bits p.1) (rest i)

renamed-behind : (xs ys : List (ℕ × ℕ)) (bits : Bits) (k : ℕ) → is_in (sources xs) k ≡ false → renamed (xs ++ ys) bits k ≡ renamed ys bits k
renamed-behind [] ys bits k none = refl
renamed-behind (p ∷ xs) ys bits k none =
    elim (k == p.0) as (λ b. (k == p.0) ≡ b → cond b (bits p.1) (renamed (xs ++ ys) bits k) ≡ renamed ys bits k) [
      | true ↦ λ is. absurd (false≢true (sym none ∙ or_left (p.0 == k) (is_in (sources xs) k) (eq-eqb p.0 k (sym (eqb-true k p.0 is)))))
      | false ↦ λ is. renamed-behind xs ys bits k (or_parts (p.0 == k) (is_in (sources xs) k) none).1
    ] refl

-- through one latch
renamed-shift : (a c m n : ℕ) (bits : Bits) (k : ℕ) → m ≤ k → k < m + n → renamed (map (λ i. (a + i, c + i)) (range_with_len m n)) bits (a + k) ≡ bits (c + k)
renamed-shift a c m zero bits k low high = absurd (omega (arith, low, high))
renamed-shift a c m (suc n) bits k low high =
    elim (cases_eq k m) [
      | inl same ↦
          let is : ((a + k) == (a + m)) ≡ true = eq-eqb (a + k) (a + m) (omega (arith, same)) in
          ap (λ b. cond b (bits (c + m)) (renamed (map (λ i. (a + i, c + i)) (range_with_len (m + 1) n)) bits (a + k))) is ∙ ap (λ i. bits (c + i)) (sym same)
      | inr differ ↦
          let is : ((a + k) == (a + m)) ≡ false = ne_eqb (a + k) (a + m) (λ same. differ (omega (arith, same))) in
          ap (λ b. cond b (bits (c + m)) (renamed (map (λ i. (a + i, c + i)) (range_with_len (m + 1) n)) bits (a + k))) is
          ∙ renamed-shift a c (m + 1) n bits k (omega (arith, low, differ)) (omega (arith, high))
    ]

-- at a level of a latch's next value stands the bit of its present one
read-before : (net : Net) (start : ℕ) (bits : Bits) (output : ℕ) → list_any (nat_eq output) (latch_outputs net) ≡ true → (n : ℕ) → output < n → (k : ℕ) → k < bits_of (variable_at net.names output) → renamed (back_before net start n) bits (own_level net start output + bits_of (variable_at net.names output) + k) ≡ bits (own_level net start output + k)
read-before net start bits output is zero less k below = absurd (omega (arith, less))
read-before net start bits output is (suc n) less k below =
    let b = bits_of (variable_at net.names output) in
    let twice = own-latch net output is in
    let key = own_level net start output + b + k in
    ap (λ pairs. renamed pairs bits key) (before-more net start n)
    ∙ elim (cases_eq output n) as (λ o. renamed (back_before net start n ++ back_from net start n) bits key ≡ bits (own_level net start output + k)) [
      | inl same ↦
          let none : is_in (sources (back_before net start n)) key ≡ false =
          false_from_ne_true _ (λ member.
          let at = sources-within start (own_level net start n) (back_before net start n) (back-signals net start n).within key member in
          let equal = ap (own_level net start) same in
          omega (arith, at.1, equal)) in
          let latch : back_from net start n ≡ latch_back net start output =
          ap (back_from net start) (sym same) ∙ ap (λ t. cond t (latch_back net start output) []) is in
          renamed-behind (back_before net start n) (back_from net start n) bits key none
          ∙ ap (λ pairs. renamed pairs bits key) latch
          ∙ renamed-shift (own_level net start output + b) (own_level net start output) 0 b bits k (omega arith) (omega (arith, below))
      | inr differ ↦
          let before : output < n = omega (arith, less, differ) in
          let none : is_in (sources (back_from net start n)) key ≡ false =
          false_from_ne_true _ (λ member.
          let at = sources-within (own_level net start n) (own_level net start n + bits_in (own_of net n)) (back_from net start n) (back-signal net start n).within key member in
          let behind = own-behind net output n before in
          omega (arith, at.0, behind, twice, below)) in
          renamed-front (back_before net start n) (back_from net start n) bits key none
          ∙ read-before net start bits output is n before k below
    ]

pub read-back : (net : Net) (start : ℕ) (bits : Bits) (output : ℕ) → list_any (nat_eq output) (latch_outputs net) ≡ true → output < length net.names → (k : ℕ) → k < bits_of (variable_at net.names output) → renamed (flat_map (back_from net start) (range_with_len 0 (length net.names))) bits (own_level net start output + bits_of (variable_at net.names output) + k) ≡ bits (own_level net start output + k)
read-back net start bits output is known k below = read-before net start bits output is (length net.names) known k below
