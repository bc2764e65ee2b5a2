-- Two codes that spell one number.
use Rattle.std.proofs.Common.{◌≡◌, ◌==◌, ◌∙◌, ◌&&◌, ◌+◌, ◌-◌, ◌^◌, ◌<◌, ℕ, Bool, true, false, not, if◌then◌else◌, refl, sym}
use Rattle.node_table.specs.Table.{Bits}
use Rattle.mv_encoding.specs.Layouts.{number_at}
use Rattle.mv_encoding.proofs.Spelling.{number-below, number-first}
use Rattle.mv_encoding.proofs.Chains.{spells}

pub same-bit : (b : Bool) → (if b then true else false) ≡ b
same-bit true = refl
same-bit false = refl

both-ways : (x y e : Bool) → ((if x then y else not y) && e) ≡ (if x then (if y then e else false) else (if y then false else e))
both-ways true true e = refl
both-ways true false e = refl
both-ways false true e = refl
both-ways false false e = refl

-- the first bits are the same, and so are the numbers behind them
pub alike-next : (a b bits : ℕ) (u : Bits) → 0 < bits
    → ((if u a then u b else not (u b)) && (number_at (a + 1) (bits - 1) u == number_at (b + 1) (bits - 1) u)) ≡ (number_at a bits u == number_at b bits u)
alike-next a b bits u some =
    let m = number_at (a + 1) (bits - 1) u in
    let n = number_at (b + 1) (bits - 1) u in
    let half = 2 ^ (bits - 1) in
    both-ways (u a) (u b) (m == n)
    ∙ sym (spells half m n (u a) (u b) (number-below (bits - 1) (a + 1) u) (number-below (bits - 1) (b + 1) u))
    ∙ sym (λ i. number-first a bits u some i == number-first b bits u some i)
