-- Numbers that follow one another.
use Rattle.std.proofs.Common.{◌≡◌, ◌+◌, ◌++◌, ℕ, zero, suc, List, [], ◌∷◌, ap, ◌∙◌, arith}
use Rattle.std.specs.List.{range_with_len}

pub range-suc : (n first : ℕ) → range_with_len first (suc n) ≡ range_with_len first n ++ ((first + n) ∷ [])
range-suc zero first = let same : first ≡ first + 0 = omega arith in λ i. same i ∷ []
range-suc (suc n) first =
    let same : first + 1 + n ≡ first + suc n = omega arith in
    ap (λ numbers. first ∷ numbers) (range-suc n (first + 1) ∙ ap (λ k. range_with_len (first + 1) n ++ k ∷ []) same)
