-- An order of n places has each number below n.
use Rattle.std.proofs.Common.{◌≡◌, ◌≢◌, ◌==◌, ◌<◌, ◌≤◌, ◌⊎◌, ℕ, true, false, List, ◌∷◌, length, get_or, eqb, All, sym, ◌∙◌, inl, inr, arith}
use Rattle.std.specs.List.{list_any}
use Rattle.std.proofs.lemmas.Bool.{eqb-true, eq-eqb, true≢false, true_from_ne_false, or_cases}
use Rattle.std.proofs.lemmas.Bool.Decides.{Decides-eqb}
use Rattle.std.proofs.lemmas.List.Folds.{list_any_at, Any-from_list_any}
use Rattle.std.proofs.lemmas.List.Kept.{AllPairs-cons}
use Rattle.std.proofs.lemmas.Map.Made.{IsDistinct-from_AllPairs}
use Rattle.std.proofs.lemmas.Map.Steps.{length-le_from_distinct_below}
use Rattle.bdd_ops.specs.Levels.{is_in}
use Rattle.part_relation.specs.Plans.{IsArrangement}

-- else one number more would be below n than there are
pub order-covers : (n : ℕ) (order : List ℕ) → IsArrangement n order → (k : ℕ) → k < n → is_in order k ≡ true
order-covers n order is k below = true_from_ne_false (is_in order k) absent
  where
    differs : is_in order k ≡ false → All (λ y. k ≢ y) order
    differs out i d within same = true≢false (sym (list_any_at (λ l. l == k) order i d within (eq-eqb (get_or order i d) k (sym same))) ∙ out)

    within-n : (q : ℕ) → list_any (eqb q) (k ∷ order) ≡ true → q < n
    within-n q member = by (or_cases (eqb q k) (list_any (eqb q) order) member)
      where
        by : (eqb q k ≡ true) ⊎ (list_any (eqb q) order ≡ true) → q < n
        by (inl same) = let is-k : q ≡ k = eqb-true q k same in omega (arith, is-k, below)
        by (inr later) =
            let any = Any-from_list_any (eqb q) order later in
            let same : q ≡ any.1 = eqb-true q any.1 any.4 in
            let low = is.below any.0 any.1 any.2 in
            omega (arith, same, low, any.3)

    absent : is_in order k ≡ false → ⊥
    absent out =
        let longer : length (k ∷ order) ≤ n = length-le_from_distinct_below (k ∷ order) n (IsDistinct-from_AllPairs Decides-eqb (k ∷ order) (AllPairs-cons (λ x y. x ≢ y) k order (differs out) is.different)) within-n in
        omega (arith, longer, is.len)
