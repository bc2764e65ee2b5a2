-- Levels that diagrams ask, and the order of the levels of a relation.
use Rattle.std.proofs.Common.{◌≡◌, ◌+◌, ◌<◌, ◌≤◌, ◌∙◌, ℕ, zero, suc, Bool, true, false, List, [], ◌∷◌, All, sym, subst, refl, arith}
use Rattle.std.specs.List.{range_with_len}
use Rattle.std.proofs.lemmas.Bool.{false_from_ne_true}
use Rattle.node_table.specs.Table.{Table, value_at, top_of, IsValid, IsEnd}
use Rattle.bdd_ops.specs.Levels.{is_in, IsRisingMap}
use Rattle.bdd_ops.specs.Meaning.{DependsOn}
use Rattle.bdd_ops.proofs.Hiding.{value-constant}
use Rattle.mv_encoding.proofs.Ranges.{in-range, range-in}
use Rattle.subset_build.specs.Relations.{present_of, AreInOrder, Reads}
use Rattle.automata_tests.specs.Drawings.{AsksBetween}

module _ (t : Table) (first end : ℕ) where
  pub constant-asks : (r : ℕ) → r < 2 → AsksBetween t first end r
  constant-asks r small u v same = value-constant t r small u v

  -- a node at such a level over diagrams that ask only these
  pub node-asks : (r lo hi : ℕ) → first ≤ top_of t r → top_of t r < end → IsEnd t r false lo → IsEnd t r true hi → AsksBetween t first end lo → AsksBetween t first end hi → AsksBetween t first end r
  node-asks r lo hi low high zero_end one_end low_asks high_asks u v same = pick (u (top_of t r)) refl
    where
      at : u (top_of t r) ≡ v (top_of t r)
      at = same (top_of t r) low high

      pick : (b : Bool) → u (top_of t r) ≡ b → value_at t r u ≡ value_at t r v
      pick true is = one_end.value u is ∙ high_asks u v same ∙ sym (one_end.value v (sym at ∙ is))
      pick false is = zero_end.value u is ∙ low_asks u v same ∙ sym (zero_end.value v (sym at ∙ is))

-- it depends on these levels alone
pub depends-between : (t : Table) (first n r : ℕ) → AsksBetween t first (first + n) r → DependsOn t (range_with_len first n) r
depends-between t first n r asks u v same = asks u v (λ k low high. same k (in-range n first k low high))

abbrev pub next_to_present : List (ℕ × ℕ)
next_to_present = (5, 3) ∷ (6, 4) ∷ []

-- three levels of letters, two of present and two of next states
pub in-order : AreInOrder 7 (range_with_len 0 3) next_to_present
in-order = record {
  rises = rises;
  keep_within = keep_within;
  state_within = state_within;
  apart = λ k next. false_from_ne_true (is_in (present_of next_to_present) k) (λ present. let a = range-in 2 5 k next in let b = range-in 2 3 k present in absurd (omega (arith, a.0, b.1)));
  above_next = λ k l letter next. let a = range-in 3 0 k letter in let b = range-in 2 5 l next in omega (arith, a.1, b.0);
  above_present = λ k l letter present. let a = range-in 3 0 k letter in let b = range-in 2 3 l present in omega (arith, a.1, b.0);
}
  where
    rises : IsRisingMap next_to_present
    rises zero zero d less within = absurd (omega (arith, less))
    rises zero (suc zero) d less within = (omega arith, omega arith)
    rises zero (suc (suc j)) d less within = absurd (omega (arith, within))
    rises (suc i) zero d less within = absurd (omega (arith, less))
    rises (suc i) (suc zero) d less within = absurd (omega (arith, less))
    rises (suc i) (suc (suc j)) d less within = absurd (omega (arith, within))

    keep_within : All (λ k. k < 7) (range_with_len 0 3)
    keep_within zero d within = omega arith
    keep_within (suc zero) d within = omega arith
    keep_within (suc (suc zero)) d within = omega arith
    keep_within (suc (suc (suc k))) d within = absurd (omega (arith, within))

    state_within : All (λ p. (p.0 < 7) × (p.1 < 7)) next_to_present
    state_within zero d within = (omega arith, omega arith)
    state_within (suc zero) d within = (omega arith, omega arith)
    state_within (suc (suc k)) d within = absurd (omega (arith, within))

pub reads-letters : (t : Table) (keep : List ℕ) (r : ℕ) → keep ≡ range_with_len 0 3 → IsValid t r → AsksBetween t 0 3 r → Reads t keep r
reads-letters t keep r is valid asks = subst (λ levels. Reads t levels r) (sym is) (record { valid = valid; depends = depends-between t 0 3 r asks })

pub reads-states : (t : Table) (state : List (ℕ × ℕ)) (r : ℕ) → state ≡ next_to_present → IsValid t r → AsksBetween t 3 5 r → Reads t (present_of state) r
reads-states t state r is valid asks = subst (λ pairs. Reads t (present_of pairs) r) (sym is) (record { valid = valid; depends = depends-between t 3 2 r asks })

pub order-of : (levels : ℕ) (keep : List ℕ) (state : List (ℕ × ℕ)) → levels ≡ 7 → keep ≡ range_with_len 0 3 → state ≡ next_to_present → AreInOrder levels keep state
order-of levels keep state seven letters states = subst (λ n. AreInOrder n keep state) (sym seven) (subst (λ k. AreInOrder 7 k state) (sym letters) (subst (λ s. AreInOrder 7 (range_with_len 0 3) s) (sym states) in-order))
