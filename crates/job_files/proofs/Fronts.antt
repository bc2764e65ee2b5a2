use Rattle.std.proofs.Common.{◌≡◌, ℕ, ◌+◌, ◌<◌, ◌≤◌, List, length, take, min, refl, ap, ◌∙◌, arith}
use Rattle.std.proofs.lemmas.List.{length-take, take_all}

-- where a front of one more byte than the most is longer than the most, the whole is
pub long_front : (held front : List ℕ) (most : ℕ) → front ≡ take (most + 1) held → most < length front → length held ≤ most → ⊥
long_front held front most is long within =
    let e : length front ≡ min (most + 1) (length held) = ap length is ∙ length-take (most + 1) held in
    absurd (omega (arith, e))

-- where it isn't, it is the whole
pub whole_front : (held front : List ℕ) (most : ℕ) → front ≡ take (most + 1) held → length front ≤ most → (length held ≤ most) × (front ≡ held)
whole_front held front most is within =
    let e : length front ≡ min (most + 1) (length held) = ap length is ∙ length-take (most + 1) held in
    let short : length held ≤ most = omega (arith, e) in
    let shorter : length held ≤ most + 1 = omega arith in
    (short, is ∙ take_all (most + 1) held shorter)
