use Rattle.std.proofs.Common.{◌≡◌, ◌≤◌, ◌<◌, ℕ, ◌+◌, ◌-◌, ◌*◌, List, [], ◌∷◌, length, drop, get_or, min, ◌∙◌, ap, inl, inr, arith}
use Rattle.std.proofs.lemmas.Bool.{cases_lt}
use Rattle.net_model.specs.Forms.{number_from}

-- A number that stops at the largest one.

pub number_from-grows : (n : ℕ) (digits : List ℕ) → n ≤ number_from n digits
number_from-grows n [] = omega arith
number_from-grows n (digit ∷ digits) = let grows = number_from-grows (10 * n + (digit - 48)) digits in omega arith

-- where the number so far has stopped, the whole number has too
pub number_from-stopped : (n most : ℕ) (digits : List ℕ) → min (number_from (min n most) digits) most ≡ min (number_from n digits) most
number_from-stopped n most digits =
    elim (cases_lt n most) [
      | inl less ↦ let same : min n most ≡ n = omega arith in ap (λ k. min (number_from k digits) most) same
      | inr more ↦
          let same : min n most ≡ most = omega arith in
          let most_grows = number_from-grows most digits in
          let n_grows = number_from-grows n digits in
          let all : min (number_from most digits) most ≡ min (number_from n digits) most = omega arith in
          ap (λ k. min (number_from k digits) most) same ∙ all
    ]

-- one more digit
pub number_from-step : (n next most : ℕ) (left more : List ℕ) → 0 < length left → more ≡ drop 1 left
    → next ≡ min (10 * n + (get_or left 0 0 - 48)) most → min (number_from next more) most ≡ min (number_from n left) most
number_from-step n next most [] more some rest is = absurd (omega arith)
number_from-step n next most (digit ∷ digits) more some rest is =
    let first : min (number_from next more) most ≡ min (number_from (min (10 * n + (digit - 48)) most) digits) most
    = ap (λ k. min (number_from k more) most) is ∙ ap (λ ds. min (number_from (min (10 * n + (digit - 48)) most) ds) most) rest in
    first ∙ number_from-stopped (10 * n + (digit - 48)) most digits
