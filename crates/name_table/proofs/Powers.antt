use Rattle.std.proofs.Common.{◌≡◌, arith, ◌*◌, ◌^◌, ◌<◌, ◌≤◌, ℕ, zero, suc, inl, inr}
use Rattle.std.specs.Prelude.{nat_le}
use Rattle.std.proofs.Math.Nat.{pow-le-pow_right}
use Rattle.std.proofs.lemmas.Bool.{cond_both, leb-true, leb-false, cases_lt}
use Rattle.std.proofs.lemmas.Nat.{pow_pos}
use Rattle.name_table.specs.CodeBits.{code_bits}

-- How many bits a code needs.

pub twice : (b : ℕ) → 2 ^ suc b ≡ 2 * 2 ^ b
twice b = omega arith

-- each value has a code
pub code_enough : (n : ℕ) → n ≤ 2 ^ code_bits n
code_enough zero = omega arith
code_enough (suc n) =
    cond_both (nat_le (suc n) (2 ^ code_bits n)) (code_bits n) (suc (code_bits n)) (λ b. suc n ≤ 2 ^ b)
    (λ fits. leb-true (suc n) (2 ^ code_bits n) fits)
    (λ over. let some = pow_pos (code_bits n) in let before = code_enough n in omega (arith, twice (code_bits n)))

-- fewer bits don't do
pub code_least : (n b : ℕ) → n ≤ 2 ^ b → code_bits n ≤ b
code_least zero b enough = omega arith
code_least (suc n) b enough =
    cond_both (nat_le (suc n) (2 ^ code_bits n)) (code_bits n) (suc (code_bits n)) (λ k. k ≤ b)
    (λ fits. code_least n b (omega arith))
    (λ over. elim (cases_lt (code_bits n) b) [
      | inl less ↦ omega arith
      | inr more ↦
          let short = leb-false (suc n) (2 ^ code_bits n) over in
          let below : 2 ^ b ≤ 2 ^ code_bits n = pow-le-pow_right {n = 2} (omega arith) more in
          absurd (omega arith)
    ])

pub code_few : (n : ℕ) → n < 2 ^ 32 → code_bits n ≤ 32
code_few n few = code_least n 32 (omega arith)

-- the first number of bits that does
pub code_is : (n b : ℕ) → n ≤ 2 ^ b → ((k : ℕ) → k < b → 2 ^ k < n) → b ≡ code_bits n
code_is n b enough before =
    let least = code_least n b enough in
    elim (cases_lt (code_bits n) b) [
      | inl less ↦ let short = before (code_bits n) less in let whole = code_enough n in absurd (omega arith)
      | inr more ↦ omega arith
    ]
