use Rattle.std.proofs.Common.{◌==◌, ◌-◌, ◌*◌, ◌/◌, ◌%◌, ◌^◌, ◌<◌, ℕ, List, true, false, if◌then◌else◌, length, get_or, w64, bit_and, bit_or, sym, ap, ◌∙◌, arith}
use Rattle.std.proofs.lemmas.Nat.Bits.{bit_at_set_same, bit_at_set_other, bit_at_clear_same, bit_at_clear_other}
use Rattle.bdd_ops.specs.Words.{bit_of}
use Rattle.bdd_ops.proofs.Bits.{bit_of-set}
use Rattle.bdd_ops.proofs.code.Code.set.Goals as goal

pub returns-then-value : goal.returns-then-value
returns-then-value c j =
    let words : List ℕ = c.self.inside.bits in
    let k : ℕ = c.args.k in
    let place : k / 64 < length words = omega (arith, c.self.told, c.requires) in
    let within : k % 64 < 64 = omega arith in
    bit_of-set words k true (bit_or (get_or words (k / 64) 0) (1 * 2 ^ (k % 64) % 18446744073709551616)) place
    (ap (λ b. b == 1) (bit_at_set_same w64 (get_or words (k / 64) 0) (k % 64) within))
    (λ i small other. bit_at_set_other w64 (get_or words (k / 64) 0) (k % 64) within i other)
    j
    ∙ (λ i. if j == k then sym c.if-value.true i else bit_of (c.self.view_is i) j)

pub returns-else-value : goal.returns-else-value
returns-else-value c j =
    let words : List ℕ = c.self.inside.bits in
    let k : ℕ = c.args.k in
    let place : k / 64 < length words = omega (arith, c.self.told, c.requires) in
    let within : k % 64 < 64 = omega arith in
    bit_of-set words k false (bit_and (get_or words (k / 64) 0) (18446744073709551615 - 1 * 2 ^ (k % 64) % 18446744073709551616)) place
    (ap (λ b. b == 1) (bit_at_clear_same w64 (get_or words (k / 64) 0) (k % 64) within))
    (λ i small other. bit_at_clear_other w64 (get_or words (k / 64) 0) (k % 64) within i small other)
    j
    ∙ (λ i. if j == k then sym c.if-value.false i else bit_of (c.self.view_is i) j)
