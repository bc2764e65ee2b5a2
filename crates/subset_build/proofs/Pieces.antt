-- The moves made of the pieces of an image.
use Rattle.std.proofs.Common.{◌≡◌, ◌+◌, ◌<◌, ◌≤◌, ◌++◌, ℕ, Bool, true, List, [], ◌∷◌, length, get_or, slice_index, refl, sym, ap, ◌∙◌, subst, inl, inr, length-append, arith}
use Rattle.std.specs.List.{All, AllPairs, list_any}
use Rattle.std.proofs.Math.Seq.{get_or-append_seam}
use Rattle.std.proofs.lemmas.Bool.{cases_lt}
use Rattle.std.proofs.lemmas.List.{get_or_default, get_or_append_left}
use Rattle.std.proofs.lemmas.List.Folds.{Any-from_list_any, list_any-from_Any}
use Rattle.node_table.specs.Table.{Bits, Table, value_at, top_of, IsValid}
use Rattle.bdd_walk.specs.Cuts.{IsLeft}
use Rattle.bdd_walk.specs.declared.splits.Piece.{Piece}
use Rattle.bdd_walk.specs.Splits.{IsSplit}
use Rattle.det_core.specs.declared.det.Move.{Move}
use Rattle.subset_build.specs.Tables.{Extends, IsPlaced, IsLeftAt, AreLeft}
use Rattle.subset_build.specs.Placing.{IsMoveOf, ArePlaced}
use Rattle.subset_build.specs.Subsets.{AreMovesOf}
use Rattle.subset_build.proofs.Values.{some-one}

pub extends-refl : (sets : List ℕ) → Extends sets sets
extends-refl sets = record { longer = omega arith; same = λ k less. refl }

pub extends-more : (a b c : List ℕ) → Extends a b → Extends b c → Extends a c
extends-more a b c one two = record { longer = omega (arith, one.longer, two.longer); same = λ k less. two.same k (omega (arith, less, one.longer)) ∙ one.same k less }

pub move-later : (a b : List ℕ) (p : Piece) (m : Move) → Extends a b → IsMoveOf a p m → IsMoveOf b p m
move-later a b p m ext is = record { guard = is.guard; within = omega (arith, is.within, ext.longer); leads = ext.same m.target is.within ∙ is.leads }

-- one piece more
pub placed-next : (a b : List ℕ) (pieces : List Piece) (count : ℕ) (moves : List Move) (piece : Piece) (m : Move) → count < length pieces → piece ≡ get_or pieces count piece → ArePlaced a pieces count moves → IsPlaced a b piece.left m.target → m.guard ≡ piece.at → ArePlaced b pieces (count + 1) (moves ++ m ∷ [])
placed-next a b pieces count moves piece m inside at before placed guard = record {
  len = length-append moves (m ∷ []) ∙ ap (λ n. n + 1) before.len;
  each = λ k p n less. elim (cases_lt k count) [
    | inl earlier ↦
        subst (IsMoveOf b (get_or pieces k p)) (sym (get_or_append_left moves (m ∷ []) n k (omega (arith, earlier, before.len)))) (move-later a b (get_or pieces k p) (get_or moves k n) placed.extends (before.each k p n earlier))
    | inr later ↦
        let here : k ≡ length moves = omega (arith, less, later, before.len) in
        let this : k ≡ count = omega (arith, less, later) in
        let last : get_or (moves ++ m ∷ []) k n ≡ m = ap (λ i. get_or (moves ++ m ∷ []) i n) here ∙ get_or-append_seam moves m [] n in
        let own : get_or pieces k p ≡ piece = ap (λ i. get_or pieces i p) this ∙ get_or_default pieces count p piece inside ∙ sym at in
        let is : IsMoveOf b piece m = record { guard = guard; within = placed.within; leads = placed.is_set } in
        subst (IsMoveOf b (get_or pieces k p)) (sym last) (subst (λ x. IsMoveOf b x m) (sym own) is)
  ];
}

module _ (t : Table) (letters : Bits → Bool) (level f within : ℕ) (pieces : List Piece) (split : IsSplit t level f within pieces) (letters_are : (u : Bits) → value_at t within u ≡ letters u) where
  -- the sets that come are left at letters
  pub came-next : (old a b : List ℕ) (i : ℕ) (piece : Piece) (target : ℕ) → i < length pieces → piece ≡ get_or pieces i piece → length old ≤ length a → AreLeft t letters level f old a → IsPlaced a b piece.left target → AreLeft t letters level f old b
  came-next old a b i piece target inside at longer before placed k late less = elim (cases_lt k (length a)) [
    | inl earlier ↦ subst (IsLeftAt t letters level f) (sym (placed.extends.same k earlier)) (before k late earlier)
    | inr new ↦ subst (IsLeftAt t letters level f) (sym (placed.only k new less)) left
  ]
    where
      left : IsLeftAt t letters level f piece.left
      left =
          let At : Piece → Type 0 = λ p. IsLeftAt t letters level f p.left in
          let some = some-one t (get_or pieces i piece).at (split.at_valid i piece inside) (split.some i piece inside) in
          subst At (sym at)
          (record {
            valid = split.left_valid i piece inside;
            below = split.below i piece inside;
            letter = some.0;
            is_letter = sym (letters_are some.0) ∙ split.inside i piece inside some.0 some.1;
            left = split.leaves i piece inside some.0 some.1;
          })

  module _ (sets : List ℕ) (moves : List Move) (placed : ArePlaced sets pieces (length pieces) moves) where
    abbrev none : Piece
    none = record { left = 0; at = 0 }

    by-piece : (P : ℕ → ℕ → Type 0) → All (λ p. P p.at p.left) pieces → All (λ (m : Move). P m.guard (slice_index sets m.target)) moves
    by-piece P all k m inside =
        let low : k < length pieces = omega (arith, inside, placed.len) in
        let is = placed.each k none m low in
        subst (λ guard. P guard (slice_index sets (get_or moves k m).target)) (sym is.guard) (subst (P (get_or pieces k none).at) (sym is.leads) (all k none low))

    by-pieces : (R : ℕ → ℕ → ℕ → ℕ → Type 0) → AllPairs (λ p q. R p.at p.left q.at q.left) pieces → AllPairs (λ (m n : Move). R m.guard (slice_index sets m.target) n.guard (slice_index sets n.target)) moves
    by-pieces R all j k m less inside =
        let low : k < length pieces = omega (arith, inside, placed.len) in
        let one = placed.each j none m (omega (arith, low, less)) in
        let two = placed.each k none m low in
        let start : R (get_or pieces j none).at (get_or pieces j none).left (get_or pieces k none).at (get_or pieces k none).left = all j k none less low in
        subst (λ guard. R (get_or moves j m).guard (slice_index sets (get_or moves j m).target) guard (slice_index sets (get_or moves k m).target)) (sym two.guard)
        (subst (R (get_or moves j m).guard (slice_index sets (get_or moves j m).target) (get_or pieces k none).at) (sym two.leads)
        (subst (λ guard. R guard (slice_index sets (get_or moves j m).target) (get_or pieces k none).at (get_or pieces k none).left) (sym one.guard)
        (subst (λ left. R (get_or pieces j none).at left (get_or pieces k none).at (get_or pieces k none).left) (sym one.leads) start)))

    covers : (u : Bits) → letters u ≡ true → list_any (λ (m : Move). value_at t m.guard u) moves ≡ true
    covers u letter =
        let (k, p, inside, here, one) = Any-from_list_any (λ (p : Piece). value_at t p.at u) pieces (split.covering u (letters_are u ∙ letter)) in
        let m : Move = get_or moves k (record { guard = 0; target = 0 }) in
        let is = placed.each k p (record { guard = 0; target = 0 }) inside in
        list_any-from_Any (λ (m : Move). value_at t m.guard u) moves
        (k, m, omega (arith, inside, placed.len), get_or_default moves k m (record { guard = 0; target = 0 }) (omega (arith, inside, placed.len)), ap (λ g. value_at t g u) (is.guard ∙ ap (λ (x : Piece). x.at) here) ∙ one)

    pub moves-are : AreMovesOf t letters level f sets moves
    moves-are = record {
      guards = record {
        valid = by-piece (λ at left. IsValid t at) split.at_valid;
        some = by-piece (λ at left. at ≡ 0 → ⊥) split.some;
        within = by-piece (λ at left. (u : Bits) → value_at t at u ≡ true → letters u ≡ true) (λ k p inside u one. sym (letters_are u) ∙ split.inside k p inside u one);
        disjoint = by-pieces (λ at left at' left'. (u : Bits) → value_at t at u ≡ true → value_at t at' u ≡ true → ⊥) split.disjoint;
        targets = λ j k m less inside same. by-pieces (λ at left at' left'. left ≡ left' → ⊥) split.different j k m less inside (ap (slice_index sets) same);
      };
      covers = covers;
      within = λ k m inside. (placed.each k none m (omega (arith, inside, placed.len))).within;
      lefts = by-piece (λ at left. IsValid t left × (level ≤ top_of t left)) (λ k p inside. (split.left_valid k p inside, split.below k p inside));
      leads = by-piece (λ at left. (a : Bits) → value_at t at a ≡ true → IsLeft t level f a left) split.leaves;
      whole = by-piece (λ at left. (a : Bits) → letters a ≡ true → IsLeft t level f a left → value_at t at a ≡ true) (λ k p inside a letter left. split.whole k p inside a (letters_are a ∙ letter) left);
    }
