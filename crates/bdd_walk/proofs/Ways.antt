-- The paths of a diagram, from those of its ends.
use Rattle.std.proofs.Common.{◌≡◌, ◌==◌, ◌<◌, ◌≤◌, ◌⊎◌, ℕ, Bool, true, false, if◌then◌else◌, List, [], ◌∷◌, ◌++◌, Some, refl, sym, ap, ◌∙◌, subst, inl, inr, arith}
use Rattle.std.specs.List.{All, AllPairs, Any}
use Rattle.std.specs.List.Sorted.{IsStrictlyIncreasing}
use Rattle.std.proofs.lemmas.Bool.{eqb-true, eq-eqb, true≢false, cases_lt}
use Rattle.std.proofs.lemmas.List.Elements.{All-append, All-map, All-cons, All-weaker}
use Rattle.node_table.specs.declared.node.Node.{Node}
use Rattle.node_table.specs.Table.{Bits, Table, number_of_next, node_of, value_of, level_or, FitsOn, AreNodes, IsValid}
use Rattle.node_table.proofs.Nodes.{apart, older, value-cons, value-first, level-cons, level-first, held-node, node-held}
use Rattle.bdd_walk.specs.Paths.{Path, Follows, levels_on, behind, paths_of, IsBefore, ArePathsOf}
use Rattle.bdd_walk.proofs.Lists.{AllPairs-append, AllPairs-map, Any-left, Any-right, Any-map, increasing-cons}

-- paths in order, with rising levels from this floor on
pub record AreInOrder (floor levels : ℕ) (paths : List Path) : Type 0 where
  pub rising : All (λ path. IsStrictlyIncreasing (levels_on path)) paths
  pub within : All (λ path. All (λ level. level < levels) (levels_on path)) paths
  pub from : All (λ path. All (λ level. floor ≤ level) (levels_on path)) paths
  pub ordered : AllPairs IsBefore paths

module _ (level : ℕ) where
  -- a literal above each path
  behind-all : (P Q : Path → Type 0) (bit : Bool) → ((path : Path) → P path → Q ((level, bit) ∷ path)) → (paths : List Path) → All P paths → All Q (behind level bit paths)
  behind-all P Q bit step paths all = All-map Q (λ path. (level, bit) ∷ path) paths (All-weaker P (λ path. Q ((level, bit) ∷ path)) step paths all)

  both-all : (P Q : Path → Type 0) → ((bit : Bool) (path : Path) → P path → Q ((level, bit) ∷ path)) → (lo hi : List Path) → All P lo → All P hi → All Q (behind level false lo ++ behind level true hi)
  both-all P Q step lo hi all_lo all_hi =
      All-append Q (behind level false lo) (behind level true hi) (behind-all P Q false (step false) lo all_lo) (behind-all P Q true (step true) hi all_hi)

  pub in-order-node : (floor_lo floor_hi levels : ℕ) (lo hi : List Path) → level < levels → level < floor_lo → level < floor_hi → AreInOrder floor_lo levels lo → AreInOrder floor_hi levels hi → AreInOrder level levels (behind level false lo ++ behind level true hi)
  in-order-node floor_lo floor_hi levels lo hi exists under_lo under_hi is_lo is_hi = record {
    rising = All-append Rises (behind level false lo) (behind level true hi) (rises false floor_lo under_lo lo is_lo.rising is_lo.from) (rises true floor_hi under_hi hi is_hi.rising is_hi.from);
    within = both-all Within Within (λ bit path inside. All-cons (λ l. l < levels) level (levels_on path) exists inside) lo hi is_lo.within is_hi.within;
    from = All-append From (behind level false lo) (behind level true hi)
        (behind-all (Above floor_lo) From false (from floor_lo under_lo false) lo is_lo.from)
        (behind-all (Above floor_hi) From true (from floor_hi under_hi true) hi is_hi.from);
    ordered = AllPairs-append IsBefore (behind level false lo) (behind level true hi)
        (AllPairs-map IsBefore (λ path. (level, false) ∷ path) lo (λ i j d less inside. (refl, inr (refl, is_lo.ordered i j d less inside))))
        (AllPairs-map IsBefore (λ path. (level, true) ∷ path) hi (λ i j d less inside. (refl, inr (refl, is_hi.ordered i j d less inside))))
        (All-map (λ p. All (IsBefore p) (behind level true hi)) (λ path. (level, false) ∷ path) lo
        (λ i d inside. All-map (IsBefore ((level, false) ∷ _)) (λ path. (level, true) ∷ path) hi (λ j e inner. (refl, inl (refl, refl)))));
  }
    where
      Rises : Path → Type 0
      Rises path = IsStrictlyIncreasing (levels_on path)

      Within : Path → Type 0
      Within path = All (λ l. l < levels) (levels_on path)

      From : Path → Type 0
      From path = All (λ l. level ≤ l) (levels_on path)

      Above : ℕ → Path → Type 0
      Above floor path = All (λ l. floor ≤ l) (levels_on path)

      from : (floor : ℕ) → level < floor → (bit : Bool) (path : Path) → Above floor path → From ((level, bit) ∷ path)
      from floor under bit path above =
          All-cons (λ l. level ≤ l) level (levels_on path) (omega arith) (All-weaker (λ l. floor ≤ l) (λ l. level ≤ l) (λ l low. omega arith) (levels_on path) above)

      rises : (bit : Bool) (floor : ℕ) → level < floor → (paths : List Path) → All Rises paths → All (Above floor) paths → All Rises (behind level bit paths)
      rises bit floor under paths all above =
          All-map Rises (λ path. (level, bit) ∷ path) paths
          (λ k d inside. increasing-cons level (levels_on _) (All-weaker (λ l. floor ≤ l) (λ l. level < l) (λ l low. omega arith) (levels_on _) (above k d inside)) (all k d inside))

-- no bits go along two paths of which one is before the other
pub before-disjoint : (p q : Path) → IsBefore p q → (bits : Bits) → Follows p bits → Follows q bits → ⊥
before-disjoint [] q before bits along other = before
before-disjoint (l ∷ p) [] before bits along other = before
before-disjoint (l ∷ p) (m ∷ q) before bits along other = by before.1 (λ later. before-disjoint p q later bits along.1 other.1)
  where
    by : ((l.1 ≡ false) × (m.1 ≡ true)) ⊎ ((l.1 ≡ m.1) × IsBefore p q) → (IsBefore p q → ⊥) → ⊥
    by (inl parts) rest = true≢false (sym parts.1 ∙ sym other.0 ∙ sym (ap bits before.0) ∙ along.0 ∙ parts.0)
    by (inr same) rest = rest same.1

-- what is left unchanged by a newer node
pub paths-cons : (n : Node) (nodes : List Node) (r : ℕ) → r < number_of_next nodes → paths_of (n ∷ nodes) r ≡ paths_of nodes r
paths-cons n nodes r held =
    ap (λ b. if b then behind n.level false (paths_of nodes n.lo) ++ behind n.level true (paths_of nodes n.hi) else paths_of nodes r)
    (apart r (number_of_next nodes) held)

pub paths-first : (n : Node) (nodes : List Node) (r : ℕ) → r ≡ number_of_next nodes → paths_of (n ∷ nodes) r ≡ behind n.level false (paths_of nodes n.lo) ++ behind n.level true (paths_of nodes n.hi)
paths-first n nodes r is =
    ap (λ b. if b then behind n.level false (paths_of nodes n.lo) ++ behind n.level true (paths_of nodes n.hi) else paths_of nodes r)
    (eq-eqb r (number_of_next nodes) is)

pub paths-zero : (nodes : List Node) → paths_of nodes 0 ≡ []
paths-zero [] = refl
paths-zero (n ∷ nodes) = paths-cons n nodes 0 (omega arith) ∙ paths-zero nodes

pub paths-one : (nodes : List Node) → paths_of nodes 1 ≡ [] ∷ []
paths-one [] = refl
paths-one (n ∷ nodes) = paths-cons n nodes 1 (omega arith) ∙ paths-one nodes

pub same-node : (n m : Node) → Some n ≡ Some m → n ≡ m
same-node n m e = cc

-- the paths of a node are those by its ends
pub paths-node : (levels : ℕ) (nodes : List Node) → AreNodes levels nodes → (r : ℕ) (m : Node) → node_of nodes r ≡ Some m → paths_of nodes r ≡ behind m.level false (paths_of nodes m.lo) ++ behind m.level true (paths_of nodes m.hi)
paths-node levels [] all r m is = absurd (cc)
paths-node levels (n ∷ nodes) all r m is = by (r == number_of_next nodes) refl (λ at. paths-node levels nodes all.1 r m at)
  where
    Goal : Type 0
    Goal = paths_of (n ∷ nodes) r ≡ behind m.level false (paths_of (n ∷ nodes) m.lo) ++ behind m.level true (paths_of (n ∷ nodes) m.hi)

    by : (b : Bool) → (r == number_of_next nodes) ≡ b → (node_of nodes r ≡ Some m → paths_of nodes r ≡ behind m.level false (paths_of nodes m.lo) ++ behind m.level true (paths_of nodes m.hi)) → Goal
    by true e rest =
        let same : n ≡ m = same-node n m (sym (ap (λ b. if b then Some n else node_of nodes r) e) ∙ is) in
        let P : Node → Type 0 = λ k. paths_of (n ∷ nodes) r ≡ behind k.level false (paths_of (n ∷ nodes) k.lo) ++ behind k.level true (paths_of (n ∷ nodes) k.hi) in
        subst P same
        (paths-first n nodes r (eqb-true r (number_of_next nodes) e)
        ∙ (λ i. behind n.level false (sym (paths-cons n nodes n.lo all.0.lo_held) i) ++ behind n.level true (sym (paths-cons n nodes n.hi all.0.hi_held) i)))
    by false e rest =
        let at : node_of nodes r ≡ Some m = sym (ap (λ b. if b then Some n else node_of nodes r) e) ∙ is in
        let held = held-node nodes r m at in
        let h = node-held levels nodes all.1 r held.0 held.1 in
        let same : h.node ≡ m = same-node h.node m (sym h.is ∙ at) in
        let Q : Node → Type 0 = λ k. (k.lo < r) × (k.hi < r) in
        let ends : Q m = subst Q same (h.lo_older, h.hi_older) in
        paths-cons n nodes r held.1
        ∙ rest at
        ∙ (λ i. behind m.level false (sym (paths-cons n nodes m.lo (omega (arith, ends.0, held.1))) i) ++ behind m.level true (sym (paths-cons n nodes m.hi (omega (arith, ends.1, held.1))) i))

-- the paths of a ref among these nodes: they go along the bits at which it has the value 1
pub record AreWays (levels : ℕ) (nodes : List Node) (r : ℕ) (paths : List Path) : Type 0 where
  pub covering : (bits : Bits) → value_of nodes r bits ≡ true → Any (λ path. Follows path bits) paths
  pub inside : All (λ path. (bits : Bits) → Follows path bits → value_of nodes r bits ≡ true) paths
  pub order : AreInOrder (level_or levels nodes r) levels paths

ways-zero : (levels : ℕ) (nodes : List Node) (r : ℕ) → ((bits : Bits) → value_of nodes r bits ≡ false) → AreWays levels nodes r []
ways-zero levels nodes r none = record {
  covering = λ bits one. absurd (true≢false (sym one ∙ none bits));
  inside = λ k d within. absurd (omega arith);
  order = record {
    rising = λ k d within. absurd (omega arith);
    within = λ k d within. absurd (omega arith);
    from = λ k d within. absurd (omega arith);
    ordered = λ i j d less within. absurd (omega arith);
  };
}

ways-one : (levels : ℕ) (nodes : List Node) (r : ℕ) → ((bits : Bits) → value_of nodes r bits ≡ true) → AreWays levels nodes r ([] ∷ [])
ways-one levels nodes r all = record {
  covering = λ bits one. (0, [], omega arith, refl, tt);
  inside = All-cons (λ path. (bits : Bits) → Follows path bits → value_of nodes r bits ≡ true) [] [] (λ bits along. all bits) (λ k d within. absurd (omega arith));
  order = record {
    rising = All-cons (λ path. IsStrictlyIncreasing (levels_on path)) [] [] (λ k within. absurd (omega arith)) (λ k d within. absurd (omega arith));
    within = All-cons (λ path. All (λ level. level < levels) (levels_on path)) [] [] (λ k d within. absurd (omega arith)) (λ k d within. absurd (omega arith));
    from = All-cons (λ path. All (λ level. level_or levels nodes r ≤ level) (levels_on path)) [] [] (λ k d within. absurd (omega arith)) (λ k d within. absurd (omega arith));
    ordered = λ i j d less within. absurd (omega arith);
  };
}

-- by the ends of a node
ways-first : (levels : ℕ) (n : Node) (nodes : List Node) → FitsOn levels nodes n → (r : ℕ) → r ≡ number_of_next nodes → (lo hi : List Path) → AreWays levels nodes n.lo lo → AreWays levels nodes n.hi hi → AreWays levels (n ∷ nodes) r (behind n.level false lo ++ behind n.level true hi)
ways-first levels n nodes fits r is lo hi at_lo at_hi = record {
  covering = λ bits one. cover bits (bits n.level) refl (sym (value bits) ∙ one);
  inside = All-append Inside (behind n.level false lo) (behind n.level true hi)
      (All-map Inside (λ path. (n.level, false) ∷ path) lo (λ k d within bits along. value bits ∙ ap (λ b. if b then value_of nodes n.hi bits else value_of nodes n.lo bits) along.0 ∙ at_lo.inside k d within bits along.1))
      (All-map Inside (λ path. (n.level, true) ∷ path) hi (λ k d within bits along. value bits ∙ ap (λ b. if b then value_of nodes n.hi bits else value_of nodes n.lo bits) along.0 ∙ at_hi.inside k d within bits along.1));
  order =
      let P : ℕ → Type 0 = λ floor. AreInOrder floor levels (behind n.level false lo ++ behind n.level true hi) in
      subst P (sym (level-first n nodes levels r is))
      (in-order-node n.level (level_or levels nodes n.lo) (level_or levels nodes n.hi) levels lo hi fits.level_exists fits.lo_below fits.hi_below at_lo.order at_hi.order);
}
  where
    value : (bits : Bits) → value_of (n ∷ nodes) r bits ≡ (if bits n.level then value_of nodes n.hi bits else value_of nodes n.lo bits)
    value = value-first n nodes r is

    Inside : Path → Type 0
    Inside path = (bits : Bits) → Follows path bits → value_of (n ∷ nodes) r bits ≡ true

    cover : (bits : Bits) (b : Bool) → bits n.level ≡ b → (if bits n.level then value_of nodes n.hi bits else value_of nodes n.lo bits) ≡ true → Any (λ path. Follows path bits) (behind n.level false lo ++ behind n.level true hi)
    cover bits false at one =
        let any = at_lo.covering bits (sym (ap (λ b. if b then value_of nodes n.hi bits else value_of nodes n.lo bits) at) ∙ one) in
        Any-left (λ path. Follows path bits) (behind n.level false lo) (behind n.level true hi)
        (Any-map (λ path. Follows path bits) (λ path. (n.level, false) ∷ path) lo (any.0, any.1, any.2, any.3, (at, any.4)))
    cover bits true at one =
        let any = at_hi.covering bits (sym (ap (λ b. if b then value_of nodes n.hi bits else value_of nodes n.lo bits) at) ∙ one) in
        Any-right (λ path. Follows path bits) (behind n.level false lo) (behind n.level true hi)
        (Any-map (λ path. Follows path bits) (λ path. (n.level, true) ∷ path) hi (any.0, any.1, any.2, any.3, (at, any.4)))

ways-cons : (levels : ℕ) (n : Node) (nodes : List Node) (r : ℕ) → r < number_of_next nodes → (paths : List Path) → AreWays levels nodes r paths → AreWays levels (n ∷ nodes) r paths
ways-cons levels n nodes r held paths ways = record {
  covering = λ bits one. ways.covering bits (sym (value-cons n nodes r held bits) ∙ one);
  inside = λ k d within bits along. value-cons n nodes r held bits ∙ ways.inside k d within bits along;
  order =
      let P : ℕ → Type 0 = λ floor. AreInOrder floor levels paths in
      subst P (sym (level-cons n nodes levels r held)) ways.order;
}

pub ways : (levels : ℕ) (nodes : List Node) → AreNodes levels nodes → (r : ℕ) → r < number_of_next nodes → AreWays levels nodes r (paths_of nodes r)
ways levels [] all r held = by (cases_lt r 1)
  where
    P : ℕ → Type 0
    P s = AreWays levels [] s (paths_of [] s)

    by : (r < 1) ⊎ (1 ≤ r) → AreWays levels [] r (paths_of [] r)
    by (inl small) = let is : 0 ≡ r = omega arith in subst P is (ways-zero levels [] 0 (λ bits. refl))
    by (inr large) = let is : 1 ≡ r = omega arith in subst P is (ways-one levels [] 1 (λ bits. refl))
ways levels (n ∷ nodes) all r held =
    by (r == number_of_next nodes) refl
    (λ within. ways levels nodes all.1 r within)
    (ways levels nodes all.1 n.lo all.0.lo_held)
    (ways levels nodes all.1 n.hi all.0.hi_held)
  where
    P : List Path → Type 0
    P paths = AreWays levels (n ∷ nodes) r paths

    by : (b : Bool) → (r == number_of_next nodes) ≡ b → (r < number_of_next nodes → AreWays levels nodes r (paths_of nodes r)) → AreWays levels nodes n.lo (paths_of nodes n.lo) → AreWays levels nodes n.hi (paths_of nodes n.hi) → AreWays levels (n ∷ nodes) r (paths_of (n ∷ nodes) r)
    by true e rest lo hi =
        let is = eqb-true r (number_of_next nodes) e in
        subst P (sym (paths-first n nodes r is)) (ways-first levels n nodes all.0 r is (paths_of nodes n.lo) (paths_of nodes n.hi) lo hi)
    by false e rest lo hi =
        let within : r < number_of_next nodes = older nodes r (omega arith) e in
        subst P (sym (paths-cons n nodes r within)) (ways-cons levels n nodes r within (paths_of nodes r) (rest within))

-- what a walk hands out is what it is to hand out
pub are-paths-of : (t : Table) (r : ℕ) → IsValid t r → ArePathsOf t r (paths_of t.nodes r)
are-paths-of t r valid =
    let all = ways t.levels t.nodes valid.table.nodes r valid.held in
    record {
      covering = all.covering;
      inside = all.inside;
      disjoint = λ i j d less within bits. before-disjoint _ _ (all.order.ordered i j d less within) bits;
      rising = all.order.rising;
      within = all.order.within;
      ordered = all.order.ordered;
    }
