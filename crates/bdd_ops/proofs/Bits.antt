-- Bits in a list of words.
use Rattle.std.proofs.Common.{◌≡◌, ◌≢◌, ◌==◌, ◌/◌, ◌%◌, ◌<◌, ℕ, zero, suc, Bool, true, false, if◌then◌else◌, List, [], ◌∷◌, length, get_or, set, refl, sym, ap, ◌∙◌, arith, get_or-set_other, get_or-set_same}
use Rattle.std.specs.Int.{bit_at}
use Rattle.std.proofs.lemmas.Bool.{eqb-true, eqb-false}
use Rattle.std.proofs.lemmas.Nat.Bits.{bit_at-zero}
use Rattle.bdd_ops.specs.Words.{bit_of}

-- so many words that are 0
abbrev pub zeroes : ℕ → List ℕ
zeroes zero = []
zeroes (suc n) = 0 ∷ zeroes n

get_or-zeroes : (n i : ℕ) → get_or (zeroes n) i 0 ≡ 0
get_or-zeroes zero i = refl
get_or-zeroes (suc n) zero = refl
get_or-zeroes (suc n) (suc i) = get_or-zeroes n i

pub bit_of-zeroes : (n k : ℕ) → bit_of (zeroes n) k ≡ false
bit_of-zeroes n k =
    ap (λ w. bit_at w (k % 64) == 1) (get_or-zeroes n (k / 64)) ∙ ap (λ b. b == 1) (bit_at-zero (k % 64))

-- one word changed at one bit
pub bit_of-set : (words : List ℕ) (k : ℕ) (value : Bool) (word : ℕ) → k / 64 < length words → (bit_at word (k % 64) == 1) ≡ value → ((i : ℕ) → i < 64 → i ≢ k % 64 → bit_at word i ≡ bit_at (get_or words (k / 64) 0) i) → (j : ℕ) → bit_of (set words (k / 64) word) j ≡ (if j == k then value else bit_of words j)
bit_of-set words k value word within same other j = by (j == k) (j / 64 == k / 64) refl refl
  where
    by : (b c : Bool) → (j == k) ≡ b → (j / 64 == k / 64) ≡ c → bit_of (set words (k / 64) word) j ≡ (if b then value else bit_of words j)
    by true c here at =
        let is : j ≡ k = eqb-true j k here in
        ap (λ i. bit_of (set words (k / 64) word) i) is ∙ ap (λ w. bit_at w (k % 64) == 1) (get_or-set_same words (k / 64) word 0 within) ∙ same
    by false true away at =
        let place : j / 64 ≡ k / 64 = eqb-true (j / 64) (k / 64) at in
        let apart = eqb-false j k away in
        let differ : j % 64 ≢ k % 64 = λ e. omega (arith, place, e, apart) in
        ap (λ i. bit_at (get_or (set words (k / 64) word) i 0) (j % 64) == 1) place
        ∙ ap (λ w. bit_at w (j % 64) == 1) (get_or-set_same words (k / 64) word 0 within)
        ∙ ap (λ b. b == 1) (other (j % 64) (omega arith) differ)
        ∙ sym (ap (λ i. bit_at (get_or words i 0) (j % 64) == 1) place)
    by false false away at =
        let apart = eqb-false (j / 64) (k / 64) at in
        ap (λ w. bit_at w (j % 64) == 1) (get_or-set_other words (k / 64) (j / 64) word 0 apart)
