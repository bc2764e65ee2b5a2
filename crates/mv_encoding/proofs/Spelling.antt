-- The numbers that bits spell.
use Rattle.std.proofs.Common.{◌≡◌, ◌==◌, ◌+◌, ◌-◌, ◌^◌, ◌<◌, ◌≤◌, ◌∙◌, ℕ, zero, suc, Bool, true, false, if◌then◌else◌, refl, ap, subst, inl, inr, arith}
use Rattle.std.proofs.lemmas.Bool.{cases_lt, eq-eqb, ne_eqb}
use Rattle.name_table.proofs.Powers.{twice}
use Rattle.node_table.specs.Table.{Bits}
use Rattle.mv_encoding.specs.Layouts.{number_at}

-- so many bits spell a number below this power
pub number-below : (b level : ℕ) (bits : Bits) → number_at level b bits < 2 ^ b
number-below zero level bits = omega arith
number-below (suc b) level bits =
    let rest = number-below b (level + 1) bits in
    elim (bits level) as (λ x. (if x then 2 ^ b else 0) + number_at (level + 1) b bits < 2 ^ suc b) [
      | true ↦ omega (arith, rest, twice b)
      | false ↦ omega (arith, rest, twice b)
    ]

-- the first bit, and what the others spell
pub number-first : (level b : ℕ) (bits : Bits) → 0 < b → number_at level b bits ≡ (if bits level then 2 ^ (b - 1) else 0) + number_at (level + 1) (b - 1) bits
number-first level zero bits some = absurd (omega (arith, some))
number-first level (suc b) bits some = let e : suc b - 1 ≡ b = omega arith in rw e refl

-- bits that agree spell the same number
pub number-same : (b level : ℕ) (u v : Bits) → ((k : ℕ) → level ≤ k → k < level + b → u k ≡ v k) → number_at level b u ≡ number_at level b v
number-same zero level u v same = refl
number-same (suc b) level u v same =
    let first = same level (omega arith) (omega arith) in
    let rest = number-same b (level + 1) u v (λ k low high. same k (omega (arith, low)) (omega (arith, high))) in
    λ i. (if first i then 2 ^ b else 0) + rest i

same-halves : (b m n : ℕ) (x y : Bool) → m < 2 ^ b → n < 2 ^ b → (if x then 2 ^ b else 0) + m ≡ (if y then 2 ^ b else 0) + n → (x ≡ y) × (m ≡ n)
same-halves b m n true true p q e = (refl, omega (arith, e))
same-halves b m n true false p q e = absurd (omega (arith, p, q, e))
same-halves b m n false true p q e = absurd (omega (arith, p, q, e))
same-halves b m n false false p q e = (refl, omega (arith, e))

-- and bits that spell the same number agree
pub bits-same : (b level : ℕ) (u v : Bits) → number_at level b u ≡ number_at level b v → (k : ℕ) → level ≤ k → k < level + b → u k ≡ v k
bits-same zero level u v same k low high = absurd (omega (arith, low, high))
bits-same (suc b) level u v same k low high =
    let both = same-halves b (number_at (level + 1) b u) (number_at (level + 1) b v) (u level) (v level) (number-below b (level + 1) u) (number-below b (level + 1) v) same in
    elim (cases_lt level k) [
      | inl less ↦ bits-same b (level + 1) u v both.1 k (omega (arith, less)) (omega (arith, high))
      | inr more ↦
          let is : level ≡ k = omega (arith, low, more) in
          let P : ℕ → Type 0 = λ l. u l ≡ v l in
          subst P is both.0
    ]

-- a bit put at this level
abbrev with_bit : ℕ → Bool → Bits → Bits
with_bit level x bits k = if k == level then x else bits k

number-with_bit : (b level : ℕ) (x : Bool) (bits : Bits) → number_at level (suc b) (with_bit level x bits) ≡ (if x then 2 ^ b else 0) + number_at (level + 1) b bits
number-with_bit b level x bits =
    let here : with_bit level x bits level ≡ x = ap (λ t. if t then x else bits level) (eq-eqb level level refl) in
    let rest : number_at (level + 1) b (with_bit level x bits) ≡ number_at (level + 1) b bits =
    number-same b (level + 1) (with_bit level x bits) bits
    (λ k low high. ap (λ t. if t then x else bits k) (ne_eqb k level (λ e. omega (arith, low, e)))) in
    λ i. (if here i then 2 ^ b else 0) + rest i

-- every number below the power is spelled by some bits
pub some-bits : (b level n : ℕ) → n < 2 ^ b → (bits : Bits) × (number_at level b bits ≡ n)
some-bits zero level n small = (λ k. false, omega (arith, small))
some-bits (suc b) level n small =
    elim (cases_lt n (2 ^ b)) [
      | inl less ↦
          let rest = some-bits b (level + 1) n less in
          (with_bit level false rest.0, number-with_bit b level false rest.0 ∙ omega (arith, rest.1))
      | inr more ↦
          let rest = some-bits b (level + 1) (n - 2 ^ b) (omega (arith, small, more, twice b)) in
          (with_bit level true rest.0, number-with_bit b level true rest.0 ∙ omega (arith, rest.1, more))
    ]
