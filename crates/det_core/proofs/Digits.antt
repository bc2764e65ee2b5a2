-- Numbers in bits, the least significant digit last.
use Rattle.std.proofs.Common.{◌≡◌, ◌==◌, ◌+◌, ◌*◌, ◌/◌, ◌%◌, ◌^◌, ◌≢◌, ◌<◌, ℕ, zero, suc, Bool, true, false, if◌then◌else◌, List, [], ◌∷◌, length, slice_index, drop, refl, sym, ap, ◌∙◌, subst, arith}
use Rattle.std.specs.List.Sorted.{IsStrictlyIncreasing}
use Rattle.std.proofs.Math.Seq.{drop-cons, drop-length}
use Rattle.std.proofs.lemmas.List.Kept.{AllPairs-from_increasing}
use Rattle.std.proofs.lemmas.Bool.{eqb-true, eq-eqb, ne_eqb, true≢false}
use Rattle.node_table.specs.Table.{Bits, Table, value_at, top_of, IsValid, IsConstant}
use Rattle.name_table.proofs.Powers.{twice}
use Rattle.mv_encoding.proofs.Chains.{spells}
use Rattle.bdd_ops.specs.Recursion.{StandsBelow}
use Rattle.det_core.specs.Codes.{code_number, has_digit}

pub number-below : (levels : List ℕ) (bits : Bits) → code_number levels bits < 2 ^ length levels
number-below [] bits = omega arith
number-below (level ∷ levels) bits = pick (bits level) (number-below levels bits) (twice (length levels))
  where
    pick : (b : Bool) → code_number levels bits < 2 ^ length levels → 2 ^ suc (length levels) ≡ 2 * 2 ^ length levels → (if b then 2 ^ length levels else 0) + code_number levels bits < 2 ^ suc (length levels)
    pick true less double = omega (arith, less, double)
    pick false less double = omega (arith, less, double)

-- The levels from place k on spell the last digits of a number, and `rest` is left of it before them.
pub record IsChain (t : Table) (levels : List ℕ) (number k rest r : ℕ) : Type 0 where
  pub low : ℕ
  pub sum : number ≡ rest * 2 ^ length (drop k levels) + low
  pub small : low < 2 ^ length (drop k levels)
  pub valid : IsValid t r
  pub below : (j : ℕ) → j < k → slice_index levels j < top_of t r
  pub value : (bits : Bits) → value_at t r bits ≡ (code_number (drop k levels) bits == low)

even-digit : (n : ℕ) → (n % 2 == 1) ≡ false → n % 2 ≡ 0
even-digit n at = let other : n % 2 ≢ 1 = (λ e. true≢false (sym (eq-eqb (n % 2) 1 e) ∙ at)) in omega (arith, other)

-- a number by its last digit
pub halves : (n : ℕ) → n ≡ (if n % 2 == 1 then 1 else 0) + 2 * (n / 2)
halves n = pick (n % 2 == 1) refl
  where
    Whole : Bool → Type 0
    Whole b = n ≡ (if b then 1 else 0) + 2 * (n / 2)

    pick : (b : Bool) → (n % 2 == 1) ≡ b → Whole (n % 2 == 1)
    pick true at = let odd = eqb-true (n % 2) 1 at in subst Whole (sym at) (omega (arith, odd))
    pick false at = let even : n % 2 ≡ 0 = even-digit n at in subst Whole (sym at) (omega (arith, even))

-- what is left of a number before one more digit
digits : (p rest before : ℕ) (digit : Bool) → rest ≡ (if digit then 1 else 0) + 2 * before → rest * p ≡ before * (2 * p) + (if digit then p else 0)
digits p rest before true is = ap (λ x. x * p) is ∙ grind arith
digits p rest before false is = ap (λ x. x * p) is ∙ grind arith

module _ (a new : Table) (levels : List ℕ) (number k after rest before level below r : ℕ) (digit : Bool)
    (next : after ≡ suc k) (less : k < length levels) (rises : IsStrictlyIncreasing levels) (here : slice_index levels k ≡ level)
    (split : rest ≡ (if digit then 1 else 0) + 2 * before) (chain : IsChain a levels number after rest below)
    (stands : StandsBelow new level r (λ bits. has_digit level digit (value_at a below bits) bits)) where
  abbrev tail : List ℕ
  tail = drop after levels

  opens : drop k levels ≡ level ∷ tail
  opens = drop-cons levels k 0 less ∙ ap (λ l. l ∷ drop (suc k) levels) here ∙ ap (λ n. level ∷ drop n levels) (sym next)

  weight : 2 ^ length (drop k levels) ≡ 2 * 2 ^ length tail
  weight = ap (λ l. 2 ^ length l) opens ∙ twice (length tail)

  abbrev last : ℕ
  last = (if digit then 2 ^ length tail else 0) + chain.low

  last-small : last < 2 ^ length (drop k levels)
  last-small = pick digit
    where
      pick : (d : Bool) → (if d then 2 ^ length tail else 0) + chain.low < 2 ^ length (drop k levels)
      pick true = omega (arith, weight, chain.small)
      pick false = omega (arith, weight, chain.small)

  -- one more digit in front
  pub chain-next : IsChain new levels number k before r
  chain-next = record {
    low = last;
    sum = chain.sum ∙ ap (λ n. n + chain.low) (digits (2 ^ length tail) rest before digit split) ∙ omega arith ∙ ap (λ p. before * p + last) (sym weight);
    small = last-small;
    valid = stands.valid;
    below = λ j earlier. let order = AllPairs-from_increasing levels rises j k 0 earlier less in omega (arith, order, here, stands.top);
    value = λ bits.
        stands.value bits
        ∙ ap (λ v. has_digit level digit v bits) (chain.value bits)
        ∙ sym (spells (2 ^ length tail) (code_number tail bits) chain.low (bits level) digit (number-below tail bits) chain.small)
        ∙ ap (λ l. code_number l bits == last) (sym opens);
  }

-- no digit is spelled yet
pub chain-first : (t : Table) (levels : List ℕ) (number r : ℕ) → IsConstant t true r → ((j : ℕ) → j < length levels → slice_index levels j < t.levels) → IsChain t levels number (length levels) number r
chain-first t levels number r one within =
    let none : drop (length levels) levels ≡ [] = drop-length levels in
    let weight : 2 ^ length (drop (length levels) levels) ≡ 1 = ap (λ l. 2 ^ length l) none in
    record {
      low = 0;
      sum = (let same : number ≡ number * 1 + 0 = omega arith in same) ∙ ap (λ p. number * p + 0) (sym weight);
      small = omega (arith, weight);
      valid = one.valid;
      below = λ j less. subst (λ n. slice_index levels j < n) (sym one.top) (within j less);
      value = λ bits. one.value bits ∙ ap (λ l. code_number l bits == 0) (sym none);
    }

-- all digits are spelled
pub chain-last : (t : Table) (levels : List ℕ) (number r : ℕ) → IsChain t levels number 0 0 r → (bits : Bits) → value_at t r bits ≡ (code_number levels bits == number)
chain-last t levels number r chain bits = chain.value bits ∙ ap (λ n. code_number levels bits == n) (let same : chain.low ≡ number = omega (arith, chain.sum) in same)

pub chain-long : (t : Table) (levels : List ℕ) (number rest r : ℕ) → (rest ≡ 0 → ⊥) → IsChain t levels number 0 rest r → (bits : Bits) → (code_number levels bits == number) ≡ false
chain-long t levels number rest r more chain bits =
    ne_eqb (code_number levels bits) number (λ same. more (none rest (2 ^ length levels) (omega (arith, same, chain.sum, number-below levels bits))))
  where
    none : (n p : ℕ) → n * p < p → n ≡ 0
    none zero p less = refl
    none (suc n) p less = absurd (grind (arith, less))
