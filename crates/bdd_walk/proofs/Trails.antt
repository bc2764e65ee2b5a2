-- A trail goes one literal on or back, and the paths that are left stay the same.
use Rattle.std.proofs.Common.{◌≡◌, ◌+◌, ◌<◌, ◌≤◌, ◌⊎◌, ℕ, Bool, true, false, List, [], ◌∷◌, ◌++◌, Some, length, slice_index, refl, sym, ap, ◌∙◌, subst, inl, inr, length-append, vec_capacity, arith}
use Rattle.std.proofs.lemmas.Bool.{cases_lt}
use Rattle.std.proofs.lemmas.List.{get_or_append_left, get_or_push, append-nil}
use Rattle.std.proofs.lemmas.List.Elements.{All-push, All-pop}
use Rattle.node_table.specs.declared.node.Node.{Node}
use Rattle.node_table.specs.Table.{Table, top_of, IsValid, IsConstant}
use Rattle.node_table.proofs.Nodes.{level-within}
use Rattle.node_table.proofs.Ends.{constant-zero}
use Rattle.bdd_walk.specs.declared.paths.Lit.{Lit}
use Rattle.bdd_walk.specs.Paths.{Path, path_of, behind, paths_of}
use Rattle.bdd_walk.specs.declared.trail.Trail.{Trail}
use Rattle.bdd_walk.specs.Walk.{paths_around, paths_left, IsWay, IsTrail}
use Rattle.bdd_walk.proofs.Nodes.{HasEnds}
use Rattle.bdd_walk.proofs.Ways.{paths-node, paths-zero, paths-one}

module _ (nodes : List Node) where
  pub around-push : (lits : List Lit) (others : List ℕ) (l : Lit) (other : ℕ) (inner deeper : List Path) → length others ≡ length lits → inner ≡ behind l.level l.value deeper ++ behind l.level true (paths_of nodes other) → paths_around nodes (lits ++ l ∷ []) (others ++ other ∷ []) deeper ≡ paths_around nodes lits others inner
  around-push [] [] l other inner deeper same is = sym is
  around-push [] (x ∷ others) l other inner deeper same is = absurd (omega arith)
  around-push (m ∷ lits) [] l other inner deeper same is = absurd (omega arith)
  around-push (m ∷ lits) (x ∷ others) l other inner deeper same is =
      ap (λ paths. behind m.level m.value paths ++ behind m.level true (paths_of nodes x)) (around-push lits others l other inner deeper (omega arith) is)

  -- at the constant 1 the next path is complete
  pub around-one : (lits : List Lit) (others : List ℕ) (inner : List Path) → length others ≡ length lits → paths_around nodes lits others ([] ∷ inner) ≡ path_of lits ∷ paths_around nodes lits others inner
  around-one [] others inner same = refl
  around-one (m ∷ lits) [] inner same = absurd (omega arith)
  around-one (m ∷ lits) (x ∷ others) inner same =
      ap (λ paths. behind m.level m.value paths ++ behind m.level true (paths_of nodes x)) (around-one lits others inner (omega arith))

  -- the paths by an end 0 are none
  pub beside-zero : (level : ℕ) (bit : Bool) (paths : List Path) → behind level bit paths ++ behind level true (paths_of nodes 0) ≡ behind level bit paths
  beside-zero level bit paths = ap (λ none. behind level bit paths ++ behind level true none) (paths-zero nodes) ∙ append-nil (behind level bit paths)

module _ (t : Table) (lits : List Lit) (others : List ℕ) where
  pub way-push : (r : ℕ) → IsWay t lits others r → (l : Lit) (other end : ℕ) → IsValid t other → IsValid t end → length lits < top_of t other → length lits < top_of t end → IsWay t (lits ++ l ∷ []) (others ++ other ∷ []) end
  way-push r way l other end other_valid end_valid other_deep end_deep = record {
    below_valid = end_valid;
    others_valid = All-push (IsValid t) others other way.others_valid other_valid;
    same_length = omega (arith, length-append others (other ∷ []), length-append lits (l ∷ []), way.same_length);
    lower = λ k within. lower k (cases_lt k (length others)) (omega (arith, length-append others (other ∷ []), within));
    deep = omega (arith, length-append lits (l ∷ []), end_deep);
  }
    where
      lower : (k : ℕ) → (k < length others) ⊎ (length others ≤ k) → k < length others + 1 → k < top_of t (slice_index (others ++ other ∷ []) k)
      lower k (inl before) within =
          let at : top_of t (slice_index (others ++ other ∷ []) k) ≡ top_of t (slice_index others k) = ap (top_of t) (get_or_append_left others (other ∷ []) 0 k before) in
          let old = way.lower k before in
          omega (arith, at, old)
      lower k (inr last) within =
          let is : length others ≡ k = omega arith in
          let at : top_of t (slice_index (others ++ other ∷ []) k) ≡ top_of t other = ap (top_of t) (get_or_push others other 0 k is) in
          omega (arith, at, is, way.same_length, other_deep)

  -- one literal back
  pub record IsBack (other : ℕ) : Type 0 where
    pub way : IsWay t lits others 0
    pub other_valid : IsValid t other
    pub other_deep : length lits < top_of t other
    pub other_high : top_of t other ≤ t.levels

  pub way-pop : (l : Lit) (other r : ℕ) → IsWay t (lits ++ l ∷ []) (others ++ other ∷ []) r → IsBack other
  way-pop l other r way = record {
    way = record {
      below_valid = (constant-zero t way.below_valid.table).valid;
      others_valid = (All-pop (IsValid t) (others ++ other ∷ []) others (Some other) refl way.others_valid).0;
      same_length = same;
      lower = λ k within.
          let at : top_of t (slice_index (others ++ other ∷ []) k) ≡ top_of t (slice_index others k) = ap (top_of t) (get_or_append_left others (other ∷ []) 0 k within) in
          let old = way.lower k (omega (arith, length-append others (other ∷ []), within)) in
          omega (arith, at, old);
      deep = let zero_top = (constant-zero t way.below_valid.table).top in omega (arith, zero_top, deep, high);
    };
    other_valid = (All-pop (IsValid t) (others ++ other ∷ []) others (Some other) refl way.others_valid).1;
    other_deep = deep;
    other_high = high;
  }
    where
      same : length others ≡ length lits
      same = omega (arith, length-append others (other ∷ []), length-append lits (l ∷ []), way.same_length)

      deep : length lits < top_of t other
      deep =
          let at : top_of t (slice_index (others ++ other ∷ []) (length others)) ≡ top_of t other = ap (top_of t) (get_or_push others other 0 (length others) refl) in
          let old = way.lower (length others) (omega (arith, length-append others (other ∷ []))) in
          omega (arith, at, old, same)

      high : top_of t other ≤ t.levels
      high = level-within t.levels t.nodes way.below_valid.table.nodes other

-- the paths of a node, by the answers of `lo` and `hi`
pub paths-ends : (t : Table) (r level lo hi : ℕ) → IsValid t r → HasEnds t r lo hi → top_of t r ≡ level → paths_of t.nodes r ≡ behind level false (paths_of t.nodes lo) ++ behind level true (paths_of t.nodes hi)
paths-ends t r level lo hi valid ends top =
    let h = ends.held in
    paths-node t.levels t.nodes valid.table.nodes r h.node h.is
    ∙ (λ i. behind ((sym h.level ∙ top) i) false (paths_of t.nodes (ends.lo_is i)) ++ behind ((sym h.level ∙ top) i) true (paths_of t.nodes (ends.hi_is i)))

module _ (t : Table) (a b : Trail) (l : Lit) (other : ℕ) where
  -- one literal on
  pub trail-push : IsTrail t a → b.lits.items ≡ a.lits.items ++ l ∷ [] → b.others.items ≡ a.others.items ++ other ∷ [] → vec_capacity a.lits ≤ vec_capacity b.lits → vec_capacity a.others ≤ vec_capacity b.others → IsValid t other → IsValid t b.below → length a.lits.items < top_of t other → length a.lits.items < top_of t b.below → IsTrail t b
  trail-push trail lits others lits_room others_room other_valid end_valid other_deep end_deep =
      let P : List Lit → Type 0 = λ ls. IsWay t ls b.others.items b.below in
      let Q : List ℕ → Type 0 = λ os. IsWay t (a.lits.items ++ l ∷ []) os b.below in
      record {
        way = subst P (sym lits) (subst Q (sym others) (way-push t a.lits.items a.others.items a.below trail.way l other b.below other_valid end_valid other_deep end_deep));
        lits_room = omega (arith, trail.lits_room);
        others_room = omega (arith, trail.others_room);
      }

  pub left-push : IsTrail t a → b.lits.items ≡ a.lits.items ++ l ∷ [] → b.others.items ≡ a.others.items ++ other ∷ [] → paths_of t.nodes a.below ≡ behind l.level l.value (paths_of t.nodes b.below) ++ behind l.level true (paths_of t.nodes other) → paths_left t.nodes b ≡ paths_left t.nodes a
  left-push trail lits others is =
      (λ i. paths_around t.nodes (lits i) (others i) (paths_of t.nodes b.below))
      ∙ around-push t.nodes a.lits.items a.others.items l other (paths_of t.nodes a.below) (paths_of t.nodes b.below) trail.way.same_length is

  -- one literal back: b becomes a, where nothing is left below
  pub back : IsTrail t b → b.lits.items ≡ a.lits.items ++ l ∷ [] → b.others.items ≡ a.others.items ++ other ∷ [] → IsBack t a.lits.items a.others.items other
  back trail lits others =
      let P : List Lit → Type 0 = λ ls. IsWay t ls b.others.items b.below in
      let Q : List ℕ → Type 0 = λ os. IsWay t (a.lits.items ++ l ∷ []) os b.below in
      way-pop t a.lits.items a.others.items l other b.below (subst Q others (subst P lits trail.way))

  pub trail-back : IsTrail t b → b.lits.items ≡ a.lits.items ++ l ∷ [] → b.others.items ≡ a.others.items ++ other ∷ [] → vec_capacity a.lits ≡ vec_capacity b.lits → vec_capacity a.others ≡ vec_capacity b.others → a.below ≡ 0 → IsTrail t a
  trail-back trail lits others lits_room others_room none =
      let P : ℕ → Type 0 = λ r. IsWay t a.lits.items a.others.items r in
      record {
        way = subst P (sym none) (back trail lits others).way;
        lits_room = omega (arith, trail.lits_room);
        others_room = omega (arith, trail.others_room);
      }

  -- nothing is left below b, and `inner` is what is left behind its last literal
  behind-last : IsTrail t b → b.lits.items ≡ a.lits.items ++ l ∷ [] → b.others.items ≡ a.others.items ++ other ∷ [] → b.below ≡ 0 → paths_around t.nodes a.lits.items a.others.items (behind l.level true (paths_of t.nodes other)) ≡ paths_left t.nodes b
  behind-last trail lits others none =
      sym (around-push t.nodes a.lits.items a.others.items l other (behind l.level true (paths_of t.nodes other)) [] (back trail lits others).way.same_length refl)
      ∙ (λ i. paths_around t.nodes (sym lits i) (sym others i) (sym (ap (paths_of t.nodes) none ∙ paths-zero t.nodes) i))

  pub left-back : IsTrail t b → b.lits.items ≡ a.lits.items ++ l ∷ [] → b.others.items ≡ a.others.items ++ other ∷ [] → a.below ≡ 0 → b.below ≡ 0 → other ≡ 0 → paths_left t.nodes a ≡ paths_left t.nodes b
  left-back trail lits others none_a none_b none =
      ap (paths_around t.nodes a.lits.items a.others.items) (ap (paths_of t.nodes) none_a ∙ paths-zero t.nodes ∙ sym (ap (behind l.level true) (ap (paths_of t.nodes) none ∙ paths-zero t.nodes)))
      ∙ behind-last trail lits others none_b

  -- one literal back and, with the bit 1, on again
  pub left-turned : (turned : Trail) → IsTrail t b → b.lits.items ≡ a.lits.items ++ l ∷ [] → b.others.items ≡ a.others.items ++ other ∷ [] → b.below ≡ 0 → turned.lits.items ≡ a.lits.items ++ record { level = l.level; value = true } ∷ [] → turned.others.items ≡ a.others.items ++ 0 ∷ [] → turned.below ≡ other → paths_left t.nodes turned ≡ paths_left t.nodes b
  left-turned turned trail lits others none new_lits new_others below =
      (λ i. paths_around t.nodes (new_lits i) (new_others i) (paths_of t.nodes (below i)))
      ∙ around-push t.nodes a.lits.items a.others.items (record { level = l.level; value = true }) 0 (behind l.level true (paths_of t.nodes other)) (paths_of t.nodes other) (back trail lits others).way.same_length (sym (beside-zero t.nodes l.level true (paths_of t.nodes other)))
      ∙ behind-last trail lits others none

  pub trail-turned : (turned : Trail) → IsTrail t b → b.lits.items ≡ a.lits.items ++ l ∷ [] → b.others.items ≡ a.others.items ++ other ∷ [] → vec_capacity a.lits ≡ vec_capacity b.lits → vec_capacity a.others ≡ vec_capacity b.others → turned.lits.items ≡ a.lits.items ++ record { level = l.level; value = true } ∷ [] → turned.others.items ≡ a.others.items ++ 0 ∷ [] → vec_capacity a.lits ≤ vec_capacity turned.lits → vec_capacity a.others ≤ vec_capacity turned.others → turned.below ≡ other → IsTrail t turned
  trail-turned turned trail lits others lits_room others_room new_lits new_others new_lits_room new_others_room below =
      let one = back trail lits others in
      let zero = constant-zero t trail.way.below_valid.table in
      let top = zero.top in
      let P : List Lit → Type 0 = λ ls. IsWay t ls turned.others.items turned.below in
      let Q : List ℕ → Type 0 = λ os. IsWay t (a.lits.items ++ record { level = l.level; value = true } ∷ []) os turned.below in
      let R : ℕ → Type 0 = λ r. IsWay t (a.lits.items ++ record { level = l.level; value = true } ∷ []) (a.others.items ++ 0 ∷ []) r in
      record {
        way = subst P (sym new_lits) (subst Q (sym new_others) (subst R (sym below) (way-push t a.lits.items a.others.items 0 one.way (record { level = l.level; value = true }) 0 other zero.valid one.other_valid (omega (arith, top, one.other_deep, one.other_high)) one.other_deep)));
        lits_room = omega (arith, trail.lits_room);
        others_room = omega (arith, trail.others_room);
      }

-- at the end of a path, and at the end of all
module _ (t : Table) (a : Trail) where
  pub left-none : a.below ≡ 0 → a.lits.items ≡ [] → paths_left t.nodes a ≡ []
  left-none none empty = (λ i. paths_around t.nodes (empty i) a.others.items (paths_of t.nodes (none i))) ∙ paths-zero t.nodes

  pub left-one : IsTrail t a → a.below ≡ 1 → (end : ℕ) → end ≡ 0 → paths_left t.nodes a ≡ path_of a.lits.items ∷ paths_left t.nodes (record a { below = end })
  left-one trail one end none =
      ap (paths_around t.nodes a.lits.items a.others.items) (ap (paths_of t.nodes) one ∙ paths-one t.nodes)
      ∙ around-one t.nodes a.lits.items a.others.items [] trail.way.same_length
      ∙ ap (λ inner. path_of a.lits.items ∷ paths_around t.nodes a.lits.items a.others.items inner) (sym (ap (paths_of t.nodes) none ∙ paths-zero t.nodes))

  pub trail-done : IsTrail t a → (end : ℕ) → IsConstant t false end → IsTrail t (record a { below = end })
  trail-done trail end constant =
      let high = level-within t.levels t.nodes trail.way.below_valid.table.nodes a.below in
      let top = constant.top in
      record {
        way = record {
          below_valid = constant.valid;
          others_valid = trail.way.others_valid;
          same_length = trail.way.same_length;
          lower = trail.way.lower;
          deep = omega (arith, trail.way.deep, high, top);
        };
        lits_room = trail.lits_room;
        others_room = trail.others_room;
      }
