-- What stands beside a ref in a list of pieces.
use Rattle.std.proofs.Common.{◌≡◌, ◌==◌, ◌<◌, ◌⊎◌, ℕ, zero, suc, Bool, true, false, if◌then◌else◌, fold, List, [], ◌∷◌, length, get_or, refl, sym, ap, ◌∙◌, subst, inl, inr, arith}
use Rattle.std.specs.List.{All, AllPairs, Any}
use Rattle.std.proofs.lemmas.Bool.{eqb-true, eqb-false, cases_order}
use Rattle.std.proofs.lemmas.List.{get_or_default}
use Rattle.bdd_walk.specs.declared.splits.Piece.{Piece}
use Rattle.bdd_walk.specs.Splitting.{guard_of}

abbrev step : ℕ → ℕ → Piece → ℕ
step r guard p = if p.left == r then p.at else guard

-- none of the pieces has this ref
abbrev pub IsNoLeft : ℕ → List Piece → Type 0
IsNoLeft r pieces = (k : ℕ) (d : Piece) → k < length pieces → (get_or pieces k d).left ≡ r → ⊥

-- a piece with this ref and this guard
abbrev pub HasGuard : ℕ → ℕ → Piece → Type 0
HasGuard r guard p = (p.left ≡ r) × (p.at ≡ guard)

found : (r before : ℕ) (pieces : List Piece) → ((fold (step r) before pieces ≡ before) × IsNoLeft r pieces) ⊎ Any (HasGuard r (fold (step r) before pieces)) pieces
found r before [] = inl (refl, λ k d within. absurd (omega arith))
found r before (p ∷ pieces) = by (p.left == r) refl (found r (step r before p) pieces)
  where
    guard : ℕ
    guard = fold (step r) (step r before p) pieces

    by : (b : Bool) → (p.left == r) ≡ b → ((guard ≡ step r before p) × IsNoLeft r pieces) ⊎ Any (HasGuard r guard) pieces → ((guard ≡ before) × IsNoLeft r (p ∷ pieces)) ⊎ Any (HasGuard r guard) (p ∷ pieces)
    by b e (inr any) = inr (suc any.0, any.1, omega (arith, any.2), any.3, any.4)
    by true e (inl none) = inr (0, p, omega arith, refl, (eqb-true p.left r e, sym (none.0 ∙ ap (λ same. if same then p.at else before) e)))
    by false e (inl none) = inl (none.0 ∙ ap (λ same. if same then p.at else before) e, other)
      where
        other : IsNoLeft r (p ∷ pieces)
        other zero d within same = eqb-false p.left r e same
        other (suc k) d within same = none.1 k d (omega arith) same

pub guard-is : (r : ℕ) (pieces : List Piece) → ((guard_of pieces r ≡ 0) × IsNoLeft r pieces) ⊎ Any (HasGuard r (guard_of pieces r)) pieces
guard-is r pieces = found r 0 pieces

-- what holds of 0 and of each guard
pub guard-holds : (P : ℕ → Type 0) (pieces : List Piece) → P 0 → All (λ p. P p.at) pieces → (r : ℕ) → P (guard_of pieces r)
guard-holds P pieces none each r = by (guard-is r pieces)
  where
    by : ((guard_of pieces r ≡ 0) × IsNoLeft r pieces) ⊎ Any (HasGuard r (guard_of pieces r)) pieces → P (guard_of pieces r)
    by (inl at) = subst P (sym at.0) none
    by (inr any) = let Q : Piece → Type 0 = λ p. P p.at in subst P any.4.1 (subst Q any.3 (each any.0 any.1 any.2))

-- what holds of all that is left
pub left-holds : (P : ℕ → Type 0) (pieces : List Piece) → All (λ p. P p.left) pieces → (r : ℕ) → (guard_of pieces r ≡ 0 → ⊥) → P r
left-holds P pieces each r some = by (guard-is r pieces)
  where
    by : ((guard_of pieces r ≡ 0) × IsNoLeft r pieces) ⊎ Any (HasGuard r (guard_of pieces r)) pieces → P r
    by (inl at) = absurd (some at.0)
    by (inr any) = let Q : Piece → Type 0 = λ p. P p.left in subst P any.4.0 (subst Q any.3 (each any.0 any.1 any.2))

-- where all that is left differs, a piece has its guard
pub guard-at : (pieces : List Piece) → AllPairs (λ p q. p.left ≡ q.left → ⊥) pieces → (k : ℕ) (d : Piece) → k < length pieces → guard_of pieces (get_or pieces k d).left ≡ (get_or pieces k d).at
guard-at pieces different k d within = by (guard-is (get_or pieces k d).left pieces)
  where
    r : ℕ
    r = (get_or pieces k d).left

    guard : ℕ
    guard = guard_of pieces r

    place : (j : ℕ) → j < length pieces → (get_or pieces j d).left ≡ r → j ≡ k
    place j inside same = by_order (cases_order j k)
      where
        by_order : (j ≡ k) ⊎ ((j < k) ⊎ (k < j)) → j ≡ k
        by_order (inl is) = is
        by_order (inr (inl less)) = absurd (different j k d less within same)
        by_order (inr (inr more)) = absurd (different k j d more inside (sym same))

    by : ((guard ≡ 0) × IsNoLeft r pieces) ⊎ Any (HasGuard r guard) pieces → guard ≡ (get_or pieces k d).at
    by (inl at) = absurd (at.1 k d within refl)
    by (inr any) =
        let here : get_or pieces any.0 d ≡ any.1 = get_or_default pieces any.0 d any.1 any.2 ∙ any.3 in
        let same : any.0 ≡ k = place any.0 any.2 (ap (λ p. p.left) here ∙ any.4.0) in
        sym any.4.1 ∙ ap (λ p. p.at) (sym here) ∙ ap (λ j. (get_or pieces j d).at) same
