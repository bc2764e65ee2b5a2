-- The pieces of a pair: at the start, as the Space grows, from the pieces of both ends, and at the end.
use Rattle.std.proofs.Common.{◌≡◌, ◌==◌, ◌<◌, ◌≤◌, ◌⊎◌, ℕ, Bool, true, false, if◌then◌else◌, min, List, [], ◌∷◌, length, get_or, refl, sym, ap, ◌∙◌, inl, inr, arith}
use Rattle.std.specs.List.{All, Any, list_any}
use Rattle.std.proofs.lemmas.Bool.{eqb-true, eq-eqb, true≢false, cases_eq}
use Rattle.std.proofs.lemmas.List.Elements.{All-weaker, All-cons}
use Rattle.std.proofs.lemmas.List.Folds.{list_any_at}
use Rattle.node_table.specs.Table.{Bits, Table, value_at, top_of, IsTable, IsValid, Grows}
use Rattle.node_table.proofs.Nodes.{value-zero}
use Rattle.node_table.proofs.Growth.{valid-grows}
use Rattle.bdd_ops.specs.Recursion.{IsCofactor}
use Rattle.bdd_walk.specs.Cuts.{SameAbove, IsLeft}
use Rattle.bdd_walk.specs.Splits.{AsksAbove, IsSplit}
use Rattle.bdd_walk.specs.Splitting.{guard_of, AreBothValid, low_of, IsPiece, IsGathered, IsUnder, IsJoin}
use Rattle.bdd_walk.specs.declared.pairs.Pair.{Pair}
use Rattle.bdd_walk.specs.declared.splits.Piece.{Piece}
use Rattle.bdd_walk.proofs.Guards.{IsNoLeft, HasGuard, guard-is, guard-holds, left-holds, guard-at}
use Rattle.bdd_walk.proofs.Lefts.{left-unique}

-- a ref that has the value 1 somewhere isn't 0
pub not-zero : (t : Table) (g : ℕ) (u : Bits) → value_at t g u ≡ true → g ≡ 0 → ⊥
not-zero t g u one none = true≢false (sym one ∙ ap (λ x. value_at t x u) none ∙ value-zero t.nodes u)

zero-valid : (t : Table) → IsTable t → IsValid t 0
zero-valid t is = record { table = is; held = omega arith }

module _ (t : Table) (level : ℕ) (pair : Pair) (pieces : List Piece) (all : IsGathered t level pair pieces) where
  pub guard-valid : (r : ℕ) → IsValid t (guard_of pieces r)
  guard-valid r = guard-holds (IsValid t) pieces (zero-valid t all.both.f.table) (λ k d within. (all.each k d within).at_valid) r

  pub left-valid : (r : ℕ) → (guard_of pieces r ≡ 0 → ⊥) → IsValid t r
  left-valid r some = left-holds (IsValid t) pieces (λ k d within. (all.each k d within).left_valid) r some

  pub left-below : (r : ℕ) → (guard_of pieces r ≡ 0 → ⊥) → level ≤ top_of t r
  left-below r some = left-holds (λ s. level ≤ top_of t s) pieces (λ k d within. (all.each k d within).below) r some

  -- the guards can stand under a node above both
  pub under : (own : ℕ) → own < low_of t pair → All (IsUnder t own) pieces
  under own above k d within =
      let piece = all.each k d within in
      record { valid = piece.at_valid; below = omega (arith, above, piece.top); some = piece.some }

  -- the pieces as callers have them
  pub is-split : IsSplit t level pair.f pair.within pieces
  is-split = record {
    left_valid = λ k d within. (all.each k d within).left_valid;
    at_valid = λ k d within. (all.each k d within).at_valid;
    below = λ k d within. (all.each k d within).below;
    some = λ k d within. (all.each k d within).some;
    inside = λ k d within u one. all.inside (get_or pieces k d).left u (from k d within u one);
    leaves = λ k d within u one. leaves k d within u one;
    whole = λ k d within u inside is_left.
        let any = all.covering u inside in
        let r : ℕ = any.0 in
        let some : guard_of pieces r ≡ 0 → ⊥ = not-zero t (guard_of pieces r) u any.1 in
        let piece = all.each k d within in
        let same : r ≡ (get_or pieces k d).left = unique u r (get_or pieces k d).left (left-valid r some) piece.left_valid (left-below r some) piece.below (all.leaves r u any.1) is_left in
        sym (ap (λ g. value_at t g u) (ap (guard_of pieces) same ∙ guard-at pieces all.different k d within)) ∙ any.1;
    covering = λ u inside.
        let any = all.covering u inside in
        covered u any.0 any.1 (guard-is any.0 pieces);
    different = all.different;
    disjoint = λ i j d less within u first second.
        let inside : i < length pieces = omega arith in
        let p = all.each i d inside in
        let q = all.each j d within in
        all.different i j d less within (unique u (get_or pieces i d).left (get_or pieces j d).left p.left_valid q.left_valid p.below q.below (leaves i d inside u first) (leaves j d within u second));
  }
    where
      from : (k : ℕ) (d : Piece) → k < length pieces → (u : Bits) → value_at t (get_or pieces k d).at u ≡ true → value_at t (guard_of pieces (get_or pieces k d).left) u ≡ true
      from k d within u one = ap (λ g. value_at t g u) (guard-at pieces all.different k d within) ∙ one

      leaves : (k : ℕ) (d : Piece) → k < length pieces → (u : Bits) → value_at t (get_or pieces k d).at u ≡ true → IsLeft t level pair.f u (get_or pieces k d).left
      leaves k d within u one = all.leaves (get_or pieces k d).left u (from k d within u one)

      unique : (u : Bits) (r s : ℕ) → IsValid t r → IsValid t s → level ≤ top_of t r → level ≤ top_of t s → IsLeft t level pair.f u r → IsLeft t level pair.f u s → r ≡ s
      unique u r s r_valid s_valid r_low s_low r_left s_left = left-unique level t t.levels pair.f r_valid.table.nodes u r s r_valid.held s_valid.held r_low s_low r_left s_left

      covered : (u : Bits) (r : ℕ) → value_at t (guard_of pieces r) u ≡ true → ((guard_of pieces r ≡ 0) × IsNoLeft r pieces) ⊎ Any (HasGuard r (guard_of pieces r)) pieces → list_any (λ p. value_at t p.at u) pieces ≡ true
      covered u r one (inl at) = absurd (not-zero t (guard_of pieces r) u one at.0)
      covered u r one (inr any) =
          list_any_at (λ p. value_at t p.at u) pieces any.0 any.1 any.2 (ap (λ p. value_at t p.at u) any.3 ∙ ap (λ g. value_at t g u) any.4.1 ∙ one)

same-value : (a b : Bool) → (a ≡ true → b ≡ true) → (b ≡ true → a ≡ true) → a ≡ b
same-value true b forth back = sym (forth refl)
same-value false true forth back = back refl
same-value false false forth back = refl

-- the guards ask for no bits below those that `within` asks for
pub guards-above : (t : Table) (level f within : ℕ) (pieces : List Piece) → AsksAbove t level within → IsSplit t level f within pieces → All (λ p. AsksAbove t level p.at) pieces
guards-above t level f within pieces asks all k d inside u v same =
    same-value (value_at t guard u) (value_at t guard v) (to u v same) (to v u (λ j above. sym (same j above)))
  where
    guard : ℕ
    guard = (get_or pieces k d).at

    to : (u v : Bits) → SameAbove level u v → value_at t guard u ≡ true → value_at t guard v ≡ true
    to u v same one =
        all.whole k d inside v
        (sym (asks u v same) ∙ all.inside k d inside u one)
        (λ w also. all.leaves k d inside u one w (λ j above. same j above ∙ also j above))

pub asks-grow : (a b : Table) → Grows a b → (level r : ℕ) → IsValid a r → AsksAbove a level r → AsksAbove b level r
asks-grow a b grow level r valid asks u v same = grow.value r valid.held u ∙ asks u v same ∙ sym (grow.value r valid.held v)

-- the Space grew
module _ (a b : Table) (grow : Grows a b) (same : b.levels ≡ a.levels) where
  pub both-grows : (pair : Pair) → AreBothValid a pair → AreBothValid b pair
  both-grows pair both = record { f = valid-grows a b grow pair.f both.f; within = valid-grows a b grow pair.within both.within }

  pub low-grows : (pair : Pair) → AreBothValid a pair → low_of b pair ≡ low_of a pair
  low-grows pair both = λ i. min (grow.top same pair.f both.f.held i) (grow.top same pair.within both.within.held i)

  piece-grows : (level before after : ℕ) → after ≡ before → (p : Piece) → IsPiece a level before p → IsPiece b level after p
  piece-grows level before after is p piece =
      let left = grow.top same p.left piece.left_valid.held in
      let at = grow.top same p.at piece.at_valid.held in
      record {
        left_valid = valid-grows a b grow p.left piece.left_valid;
        at_valid = valid-grows a b grow p.at piece.at_valid;
        below = omega (arith, left, piece.below);
        some = piece.some;
        top = omega (arith, at, is, piece.top);
      }

  pub gathered-grows : (level : ℕ) (pair : Pair) (pieces : List Piece) → IsGathered a level pair pieces → IsGathered b level pair pieces
  gathered-grows level pair pieces all = record {
    both = both-grows pair all.both;
    each = All-weaker (IsPiece a level (low_of a pair)) (IsPiece b level (low_of b pair)) (piece-grows level (low_of a pair) (low_of b pair) (low-grows pair all.both)) pieces all.each;
    different = all.different;
    inside = λ r u one. grow.value pair.within all.both.within.held u ∙ all.inside r u (back r u one);
    leaves = λ r u one v above.
        let valid = left-valid a level pair pieces all r (not-zero a (guard_of pieces r) u (back r u one)) in
        grow.value pair.f all.both.f.held v ∙ all.leaves r u (back r u one) v above ∙ sym (grow.value r valid.held v);
    covering = λ u one.
        let any = all.covering u (sym (grow.value pair.within all.both.within.held u) ∙ one) in
        (any.0, grow.value (guard_of pieces any.0) (guard-valid a level pair pieces all any.0).held u ∙ any.1);
  }
    where
      back : (r : ℕ) (u : Bits) → value_at b (guard_of pieces r) u ≡ true → value_at a (guard_of pieces r) u ≡ true
      back r u one = sym (grow.value (guard_of pieces r) (guard-valid a level pair pieces all r).held u) ∙ one

  pub cofactor-grows : (level f : ℕ) (bit : Bool) (r : ℕ) → IsValid a f → IsCofactor a level f bit r → IsCofactor b level f bit r
  cofactor-grows level f bit r valid is = record {
    valid = valid-grows a b grow r is.valid;
    below = let top = grow.top same r is.valid.held in omega (arith, top, is.below);
    value = λ bits at. grow.value f valid.held bits ∙ is.value bits at ∙ sym (grow.value r is.valid.held bits);
  }

-- f asks for no bit above the level, so all bits leave it
pub gathered-one : (t : Table) (level : ℕ) (pair : Pair) → AreBothValid t pair → level ≤ top_of t pair.f → (pair.within ≡ 0 → ⊥) → IsGathered t level pair (record { left = pair.f; at = pair.within } ∷ [])
gathered-one t level pair both low some = record {
  both = both;
  each = All-cons (IsPiece t level (low_of t pair)) piece [] is_piece (λ k d within. absurd (omega arith));
  different = λ i j d less within. absurd (omega arith);
  inside = λ r u one. (by r u (pair.f == r) refl one).1;
  leaves = λ r u one v above. ap (λ s. value_at t s v) (by r u (pair.f == r) refl one).0;
  covering = λ u one. (pair.f, ap (λ g. value_at t g u) (ap (λ b. if b then pair.within else 0) (eq-eqb pair.f pair.f refl)) ∙ one);
}
  where
    piece : Piece
    piece = record { left = pair.f; at = pair.within }

    is_piece : IsPiece t level (low_of t pair) piece
    is_piece = record { left_valid = both.f; at_valid = both.within; below = low; some = some; top = omega arith }

    by : (r : ℕ) (u : Bits) (b : Bool) → (pair.f == r) ≡ b → value_at t (guard_of (piece ∷ []) r) u ≡ true → (pair.f ≡ r) × (value_at t pair.within u ≡ true)
    by r u true e one = (eqb-true pair.f r e, sym (ap (λ b. value_at t (if b then pair.within else 0) u) e) ∙ one)
    by r u false e one = absurd (not-zero t 0 u (sym (ap (λ b. value_at t (if b then pair.within else 0) u) e) ∙ one) refl)

-- one end of a node whose level is above this one
pub record IsHalf (t : Table) (level own : ℕ) (pair : Pair) (bit : Bool) (half : Pair) (pieces : List Piece) : Type 0 where
  pub f : IsCofactor t own pair.f bit half.f
  pub within : IsCofactor t own pair.within bit half.within
  pub all : IsGathered t level half pieces

module _ (t : Table) (level own : ℕ) (pair : Pair) (above : own < level) where
  half-inside : (bit : Bool) (half : Pair) (pieces : List Piece) → IsHalf t level own pair bit half pieces → (r : ℕ) (u : Bits) → u own ≡ bit → value_at t (guard_of pieces r) u ≡ true → value_at t pair.within u ≡ true
  half-inside bit half pieces is r u at one = is.within.value u at ∙ is.all.inside r u one

  half-leaves : (bit : Bool) (half : Pair) (pieces : List Piece) → IsHalf t level own pair bit half pieces → (r : ℕ) (u : Bits) → u own ≡ bit → value_at t (guard_of pieces r) u ≡ true → IsLeft t level pair.f u r
  half-leaves bit half pieces is r u at one v same = is.f.value v (sym (same own above) ∙ at) ∙ is.all.leaves r u one v same

  half-covering : (bit : Bool) (half : Pair) (pieces : List Piece) → IsHalf t level own pair bit half pieces → (u : Bits) → u own ≡ bit → value_at t pair.within u ≡ true → (r : ℕ) × (value_at t (guard_of pieces r) u ≡ true)
  half-covering bit half pieces is u at one = is.all.covering u (sym (is.within.value u at) ∙ one)

  pub gathered-node : (pair0 pair1 : Pair) (lo hi pieces : List Piece) → AreBothValid t pair → own ≡ low_of t pair → IsHalf t level own pair false pair0 lo → IsHalf t level own pair true pair1 hi → IsJoin t own lo hi pieces → IsGathered t level pair pieces
  gathered-node pair0 pair1 lo hi pieces both topmost zeroes ones join = record {
    both = both;
    each = λ k d within. record {
      left_valid = of (IsValid t) (left-valid t level pair0 lo zeroes.all) (left-valid t level pair1 hi ones.all) k d within;
      at_valid = join.valid k d within;
      below = of (λ r. level ≤ top_of t r) (left-below t level pair0 lo zeroes.all) (left-below t level pair1 hi ones.all) k d within;
      some = join.some k d within;
      top = let top = join.top k d within in omega (arith, top, topmost);
    };
    different = join.different;
    inside = λ r u one. inside r u (u own) refl one;
    leaves = λ r u one. leaves r u (u own) refl one;
    covering = λ u one. covering u (u own) refl one;
  }
    where
      -- what holds of all that the ends leave
      of : (P : ℕ → Type 0) → ((r : ℕ) → (guard_of lo r ≡ 0 → ⊥) → P r) → ((r : ℕ) → (guard_of hi r ≡ 0 → ⊥) → P r) → (k : ℕ) (d : Piece) → k < length pieces → P (get_or pieces k d).left
      of P low high k d within = by (cases_eq (guard_of lo r) 0)
        where
          r : ℕ
          r = (get_or pieces k d).left

          by : (guard_of lo r ≡ 0) ⊎ (guard_of lo r ≡ 0 → ⊥) → P r
          by (inr some) = low r some
          by (inl none) = high r (join.from k d within none)

      at_side : (r : ℕ) (u : Bits) (b : Bool) → u own ≡ b → value_at t (guard_of pieces r) u ≡ (if b then value_at t (guard_of hi r) u else value_at t (guard_of lo r) u)
      at_side r u b at = join.value r u ∙ ap (λ c. if c then value_at t (guard_of hi r) u else value_at t (guard_of lo r) u) at

      inside : (r : ℕ) (u : Bits) (b : Bool) → u own ≡ b → value_at t (guard_of pieces r) u ≡ true → value_at t pair.within u ≡ true
      inside r u false at one = half-inside false pair0 lo zeroes r u at (sym (at_side r u false at) ∙ one)
      inside r u true at one = half-inside true pair1 hi ones r u at (sym (at_side r u true at) ∙ one)

      leaves : (r : ℕ) (u : Bits) (b : Bool) → u own ≡ b → value_at t (guard_of pieces r) u ≡ true → IsLeft t level pair.f u r
      leaves r u false at one = half-leaves false pair0 lo zeroes r u at (sym (at_side r u false at) ∙ one)
      leaves r u true at one = half-leaves true pair1 hi ones r u at (sym (at_side r u true at) ∙ one)

      covering : (u : Bits) (b : Bool) → u own ≡ b → value_at t pair.within u ≡ true → (r : ℕ) × (value_at t (guard_of pieces r) u ≡ true)
      covering u false at one = let any = half-covering false pair0 lo zeroes u at one in (any.0, at_side any.0 u false at ∙ any.1)
      covering u true at one = let any = half-covering true pair1 hi ones u at one in (any.0, at_side any.0 u true at ∙ any.1)
