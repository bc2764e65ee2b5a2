-- The numbers along a path, by the first of their bits.
use Rattle.std.proofs.Common.{◌≡◌, ◌+◌, ◌-◌, ◌^◌, ℕ, zero, suc, true, false, if◌then◌else◌, List, [], ◌++◌, refl, sym, ap, ◌∙◌, append_assoc, arith}
use Rattle.std.proofs.lemmas.List.Elements.{filter-append}
use Rattle.std.specs.Prelude.{nat_lt}
use Rattle.name_table.proofs.Powers.{twice}
use Rattle.bdd_walk.specs.Paths.{Path}
use Rattle.aut_format.specs.Rows.{allows_bit, numbers_along, values_below}

pub halves : (bits : ℕ) → (bits ≡ 0 → ⊥) → 2 ^ bits ≡ 2 ^ (bits - 1) + 2 ^ (bits - 1)
halves zero some = absurd (some refl)
halves (suc b) some =
    let less : suc b - 1 ≡ b = omega arith in
    let same : 2 ^ (suc b - 1) ≡ 2 ^ b = ap (λ n. 2 ^ n) less in
    omega (arith, twice b, same)

open-numbers : (path : Path) (level bits base raised : ℕ) → (bits ≡ 0 → ⊥) → raised ≡ base + 2 ^ (bits - 1)
    → numbers_along path level bits base
    ≡ (if allows_bit path level false then numbers_along path (level + 1) (bits - 1) base else []) ++ (if allows_bit path level true then numbers_along path (level + 1) (bits - 1) raised else [])
open-numbers path level zero base raised some weighs = absurd (some refl)
open-numbers path level (suc b) base raised some weighs =
    let less : suc b - 1 ≡ b = omega arith in
    let high : base + 2 ^ b ≡ raised = sym (weighs ∙ ap (λ n. base + 2 ^ n) less) in
    λ i. (if allows_bit path level false then numbers_along path (level + 1) (sym less i) base else []) ++ (if allows_bit path level true then numbers_along path (level + 1) (sym less i) (high i) else [])

-- both halves, as they are written one after the other
pub both-halves : (path : Path) (level bits base raised count : ℕ) (old new : List ℕ) → (bits ≡ 0 → ⊥) → raised ≡ base + 2 ^ (bits - 1) → allows_bit path level false ≡ true → allows_bit path level true ≡ true
    → new ≡ old ++ values_below count (numbers_along path (level + 1) (bits - 1) base)
    → new ++ values_below count (numbers_along path (level + 1) (bits - 1) raised) ≡ old ++ values_below count (numbers_along path level bits base)
both-halves path level bits base raised count old new some weighs low high wrote =
    let lows = numbers_along path (level + 1) (bits - 1) base in
    let highs = numbers_along path (level + 1) (bits - 1) raised in
    ap (λ s. s ++ values_below count highs) wrote
    ∙ append_assoc old (values_below count lows) (values_below count highs)
    ∙ ap (λ s. old ++ s) (sym (filter-append (λ value. nat_lt value count) lows highs))
    ∙ ap (λ s. old ++ values_below count s)
    ((λ i. (if sym low i then lows else []) ++ (if sym high i then highs else [])) ∙ sym (open-numbers path level bits base raised some weighs))
