-- What a diagram leaves below a level, and by which bits.
use Rattle.std.proofs.Common.{◌≡◌, ◌==◌, ◌+◌, ◌<◌, ◌≤◌, ◌⊎◌, ℕ, suc, Bool, true, false, if◌then◌else◌, nat_lt, List, [], ◌∷◌, ◌++◌, map, length, get_or, Some, min, max, refl, sym, ap, ◌∙◌, subst, inl, inr, arith}
use Rattle.std.specs.List.{All, AllPairs, Any}
use Rattle.std.specs.List.Sorted.{IsStrictlyIncreasing}
use Rattle.std.proofs.lemmas.Bool.{eqb-true, eq-eqb, true≢false, false_from_ne_true, cases_lt, ltb-true, lt-ltb}
use Rattle.std.proofs.lemmas.List.{map-append, length-map, get_or-map}
use Rattle.std.proofs.lemmas.List.Elements.{All-append, All-map, All-cons, All-tail}
use Rattle.std.proofs.lemmas.List.Kept.{AllPairs-from_increasing}
use Rattle.node_table.specs.declared.node.Node.{Node}
use Rattle.node_table.specs.Table.{Bits, Table, number_of_next, node_of, value_of, top_of, level_or, FitsOn, AreNodes, IsValid}
use Rattle.node_table.proofs.Nodes.{apart, older, value-cons, value-first, level-cons, level-first, held-node, node-held, AreNodes-rises}
use Rattle.node_table.proofs.Canonical.{changed}
use Rattle.bdd_ops.proofs.Hiding.{changed-at}
use Rattle.bdd_walk.specs.Paths.{Path, Follows, levels_on, behind, IsBefore}
use Rattle.bdd_walk.specs.Cuts.{SameAbove, IsLeft, IsLess, IsCut}
use Rattle.bdd_walk.specs.Walk.{ends_of, put_all}
use Rattle.bdd_walk.proofs.Nodes.{HasEnds}
use Rattle.bdd_walk.proofs.Lefts.{left-unique}
use Rattle.bdd_walk.proofs.Lists.{Any-left, Any-right, Any-map}
use Rattle.bdd_walk.proofs.Ways.{AreInOrder, in-order-node, same-node}
use Rattle.bdd_walk.proofs.Puts.{IsEarlier, among-at, among-any, put_all-in, All-put_all, earlier-put_all}

-- the ends below a level
module _ (level : ℕ) where
  ends-cons : (n : Node) (nodes : List Node) (r : ℕ) → r < number_of_next nodes → ends_of level (n ∷ nodes) r ≡ ends_of level nodes r
  ends-cons n nodes r held =
      ap (λ b. if b then (if nat_lt n.level level then ends_of level nodes n.lo ++ ends_of level nodes n.hi else r ∷ []) else ends_of level nodes r)
      (apart r (number_of_next nodes) held)

  ends-first : (n : Node) (nodes : List Node) (r : ℕ) → r ≡ number_of_next nodes → ends_of level (n ∷ nodes) r ≡ (if nat_lt n.level level then ends_of level nodes n.lo ++ ends_of level nodes n.hi else r ∷ [])
  ends-first n nodes r is =
      ap (λ b. if b then (if nat_lt n.level level then ends_of level nodes n.lo ++ ends_of level nodes n.hi else r ∷ []) else ends_of level nodes r)
      (eq-eqb r (number_of_next nodes) is)

  ends-inner : (levels : ℕ) (nodes : List Node) → AreNodes levels nodes → (r : ℕ) (m : Node) → node_of nodes r ≡ Some m → m.level < level → ends_of level nodes r ≡ ends_of level nodes m.lo ++ ends_of level nodes m.hi
  ends-inner levels [] all r m is above = absurd (cc)
  ends-inner levels (n ∷ nodes) all r m is above = by (r == number_of_next nodes) refl (λ at. ends-inner levels nodes all.1 r m at above)
    where
      by : (b : Bool) → (r == number_of_next nodes) ≡ b → (node_of nodes r ≡ Some m → ends_of level nodes r ≡ ends_of level nodes m.lo ++ ends_of level nodes m.hi) → ends_of level (n ∷ nodes) r ≡ ends_of level (n ∷ nodes) m.lo ++ ends_of level (n ∷ nodes) m.hi
      by true e rest =
          let same : n ≡ m = same-node n m (sym (ap (λ b. if b then Some n else node_of nodes r) e) ∙ is) in
          let P : Node → Type 0 = λ k. k.level < level → ends_of level (n ∷ nodes) r ≡ ends_of level (n ∷ nodes) k.lo ++ ends_of level (n ∷ nodes) k.hi in
          subst P same
          (λ higher.
          ends-first n nodes r (eqb-true r (number_of_next nodes) e)
          ∙ ap (λ b. if b then ends_of level nodes n.lo ++ ends_of level nodes n.hi else r ∷ []) (lt-ltb n.level level higher)
          ∙ (λ i. sym (ends-cons n nodes n.lo all.0.lo_held) i ++ sym (ends-cons n nodes n.hi all.0.hi_held) i))
          above
      by false e rest =
          let at : node_of nodes r ≡ Some m = sym (ap (λ b. if b then Some n else node_of nodes r) e) ∙ is in
          let held = held-node nodes r m at in
          let h = node-held levels nodes all.1 r held.0 held.1 in
          let same : h.node ≡ m = same-node h.node m (sym h.is ∙ at) in
          let Q : Node → Type 0 = λ k. (k.lo < r) × (k.hi < r) in
          let ends : Q m = subst Q same (h.lo_older, h.hi_older) in
          ends-cons n nodes r held.1
          ∙ rest at
          ∙ (λ i. sym (ends-cons n nodes m.lo (omega (arith, ends.0, held.1))) i ++ sym (ends-cons n nodes m.hi (omega (arith, ends.1, held.1))) i)

  ends-outer : (levels : ℕ) (nodes : List Node) (r : ℕ) → r < number_of_next nodes → (2 ≤ r → level ≤ level_or levels nodes r) → ends_of level nodes r ≡ r ∷ []
  ends-outer levels [] r held low = refl
  ends-outer levels (n ∷ nodes) r held low = by (r == number_of_next nodes) refl (λ within still. ends-outer levels nodes r within still)
    where
      by : (b : Bool) → (r == number_of_next nodes) ≡ b → (r < number_of_next nodes → (2 ≤ r → level ≤ level_or levels nodes r) → ends_of level nodes r ≡ r ∷ []) → ends_of level (n ∷ nodes) r ≡ r ∷ []
      by true e rest =
          let is = eqb-true r (number_of_next nodes) e in
          let top = level-first n nodes levels r is in
          let under = low (omega arith) in
          ends-first n nodes r is
          ∙ ap (λ b. if b then ends_of level nodes n.lo ++ ends_of level nodes n.hi else r ∷ [])
          (false_from_ne_true (nat_lt n.level level) (λ less. let above = ltb-true n.level level less in omega (arith, above, top, under)))
      by false e rest =
          let within : r < number_of_next nodes = older nodes r (omega arith) e in
          let top = level-cons n nodes levels r within in
          ends-cons n nodes r within ∙ rest within (λ node. let under = low node in omega (arith, top, under))

  -- by the answers of `level`, `lo` and `hi`
  pub ends-node : (t : Table) (r own lo hi : ℕ) → IsValid t r → HasEnds t r lo hi → top_of t r ≡ own → own < level → ends_of level t.nodes r ≡ ends_of level t.nodes lo ++ ends_of level t.nodes hi
  ends-node t r own lo hi valid ends top above =
      ends-inner t.levels t.nodes valid.table.nodes r ends.held.node ends.held.is (omega (arith, ends.held.level, top, above))
      ∙ (λ i. ends_of level t.nodes (ends.lo_is i) ++ ends_of level t.nodes (ends.hi_is i))

  pub ends-itself : (t : Table) (r : ℕ) → IsValid t r → (2 ≤ r → level ≤ top_of t r) → ends_of level t.nodes r ≡ r ∷ []
  ends-itself t r valid low = ends-outer t.levels t.nodes r valid.held low

-- a way to an end: its literals, and the end
abbrev Way : Type 0
Way = Path × ℕ

abbrev on : ℕ → Bool → List Way → List Way
on level bit ways = map (λ w. ((level, bit) ∷ w.0, w.1)) ways

abbrev ways_of : ℕ → List Node → ℕ → List Way
ways_of level [] r = ([], r) ∷ []
ways_of level (n ∷ older) r =
    if r == number_of_next older
    then (if nat_lt n.level level then on n.level false (ways_of level older n.lo) ++ on n.level true (ways_of level older n.hi) else ([], r) ∷ [])
    else ways_of level older r

abbrev literals : List Way → List Path
literals ways = map (λ w. w.0) ways

abbrev ends : List Way → List ℕ
ends ways = map (λ w. w.1) ways

literals-on : (level : ℕ) (bit : Bool) (ways : List Way) → literals (on level bit ways) ≡ behind level bit (literals ways)
literals-on level bit [] = refl
literals-on level bit (w ∷ ways) = ap (λ rest. ((level, bit) ∷ w.0) ∷ rest) (literals-on level bit ways)

ends-on : (level : ℕ) (bit : Bool) (ways : List Way) → ends (on level bit ways) ≡ ends ways
ends-on level bit [] = refl
ends-on level bit (w ∷ ways) = ap (λ rest. w.1 ∷ rest) (ends-on level bit ways)

ends-ways : (level : ℕ) (nodes : List Node) (r : ℕ) → ends (ways_of level nodes r) ≡ ends_of level nodes r
ends-ways level [] r = refl
ends-ways level (n ∷ nodes) r =
    elim (r == number_of_next nodes)
    as (λ b. ends (if b then (if nat_lt n.level level then on n.level false (ways_of level nodes n.lo) ++ on n.level true (ways_of level nodes n.hi) else ([], r) ∷ []) else ways_of level nodes r)
    ≡ (if b then (if nat_lt n.level level then ends_of level nodes n.lo ++ ends_of level nodes n.hi else r ∷ []) else ends_of level nodes r)) [
      | true ↦
          elim (nat_lt n.level level)
          as (λ b. ends (if b then on n.level false (ways_of level nodes n.lo) ++ on n.level true (ways_of level nodes n.hi) else ([], r) ∷ [])
          ≡ (if b then ends_of level nodes n.lo ++ ends_of level nodes n.hi else r ∷ [])) [
            | true ↦
                map-append (λ w. w.1) (on n.level false (ways_of level nodes n.lo)) (on n.level true (ways_of level nodes n.hi))
                ∙ (λ i. (ends-on n.level false (ways_of level nodes n.lo) ∙ ends-ways level nodes n.lo) i ++ (ends-on n.level true (ways_of level nodes n.hi) ∙ ends-ways level nodes n.hi) i)
            | false ↦ refl
          ]
      | false ↦ ends-ways level nodes r
    ]

-- the ways go along all bits, and lead to what is left there
record AreWaysTo (level levels : ℕ) (nodes : List Node) (r : ℕ) (ways : List Way) : Type 0 where
  covering : (bits : Bits) → Any (λ w. Follows w.0 bits) ways
  inside : All (λ w. (bits : Bits) → Follows w.0 bits → value_of nodes r bits ≡ value_of nodes w.1 bits) ways
  held : All (λ w. w.1 < number_of_next nodes) ways
  low : All (λ w. level ≤ level_or levels nodes w.1) ways
  order : AreInOrder (level_or levels nodes r) level (literals ways)

ways-end : (level levels : ℕ) (nodes : List Node) (r : ℕ) → r < number_of_next nodes → level ≤ level_or levels nodes r → AreWaysTo level levels nodes r (([], r) ∷ [])
ways-end level levels nodes r is_held is_low = record {
  covering = λ bits. (0, ([], r), omega arith, refl, tt);
  inside = All-cons (λ w. (bits : Bits) → Follows w.0 bits → value_of nodes r bits ≡ value_of nodes w.1 bits) ([], r) [] (λ bits along. refl) (λ k d within. absurd (omega arith));
  held = All-cons (λ w. w.1 < number_of_next nodes) ([], r) [] is_held (λ k d within. absurd (omega arith));
  low = All-cons (λ w. level ≤ level_or levels nodes w.1) ([], r) [] is_low (λ k d within. absurd (omega arith));
  order = record {
    rising = All-cons (λ path. IsStrictlyIncreasing (levels_on path)) [] [] (λ k within. absurd (omega arith)) (λ k d within. absurd (omega arith));
    within = All-cons (λ path. All (λ l. l < level) (levels_on path)) [] [] (λ k d within. absurd (omega arith)) (λ k d within. absurd (omega arith));
    from = All-cons (λ path. All (λ l. level_or levels nodes r ≤ l) (levels_on path)) [] [] (λ k d within. absurd (omega arith)) (λ k d within. absurd (omega arith));
    ordered = λ i j d less within. absurd (omega arith);
  };
}

ways-inner : (level levels : ℕ) (n : Node) (nodes : List Node) → FitsOn levels nodes n → (r : ℕ) → r ≡ number_of_next nodes → n.level < level → (lo hi : List Way) → AreWaysTo level levels nodes n.lo lo → AreWaysTo level levels nodes n.hi hi → AreWaysTo level levels (n ∷ nodes) r (on n.level false lo ++ on n.level true hi)
ways-inner level levels n nodes fits r is above lo hi at_lo at_hi = record {
  covering = λ bits. cover bits (bits n.level) refl;
  inside = All-append Inside (on n.level false lo) (on n.level true hi)
      (All-map Inside (λ w. ((n.level, false) ∷ w.0, w.1)) lo (λ k d within bits along.
      value bits ∙ ap (λ b. if b then value_of nodes n.hi bits else value_of nodes n.lo bits) along.0 ∙ at_lo.inside k d within bits along.1 ∙ sym (value-cons n nodes (get_or lo k d).1 (at_lo.held k d within) bits)))
      (All-map Inside (λ w. ((n.level, true) ∷ w.0, w.1)) hi (λ k d within bits along.
      value bits ∙ ap (λ b. if b then value_of nodes n.hi bits else value_of nodes n.lo bits) along.0 ∙ at_hi.inside k d within bits along.1 ∙ sym (value-cons n nodes (get_or hi k d).1 (at_hi.held k d within) bits)));
  held = All-append Held (on n.level false lo) (on n.level true hi)
      (All-map Held (λ w. ((n.level, false) ∷ w.0, w.1)) lo (λ k d within. let held = at_lo.held k d within in omega arith))
      (All-map Held (λ w. ((n.level, true) ∷ w.0, w.1)) hi (λ k d within. let held = at_hi.held k d within in omega arith));
  low = All-append Low (on n.level false lo) (on n.level true hi)
      (All-map Low (λ w. ((n.level, false) ∷ w.0, w.1)) lo (λ k d within.
      let low = at_lo.low k d within in
      let same = level-cons n nodes levels (get_or lo k d).1 (at_lo.held k d within) in
      omega (arith, low, same)))
      (All-map Low (λ w. ((n.level, true) ∷ w.0, w.1)) hi (λ k d within.
      let low = at_hi.low k d within in
      let same = level-cons n nodes levels (get_or hi k d).1 (at_hi.held k d within) in
      omega (arith, low, same)));
  order =
      let P : ℕ → Type 0 = λ floor. AreInOrder floor level (literals (on n.level false lo ++ on n.level true hi)) in
      let Q : List Path → Type 0 = λ paths. AreInOrder n.level level paths in
      let paths : literals (on n.level false lo ++ on n.level true hi) ≡ behind n.level false (literals lo) ++ behind n.level true (literals hi) =
      map-append (λ w. w.0) (on n.level false lo) (on n.level true hi) ∙ (λ i. literals-on n.level false lo i ++ literals-on n.level true hi i) in
      subst P (sym (level-first n nodes levels r is))
      (subst Q (sym paths) (in-order-node n.level (level_or levels nodes n.lo) (level_or levels nodes n.hi) level (literals lo) (literals hi) above fits.lo_below fits.hi_below at_lo.order at_hi.order));
}
  where
    value : (bits : Bits) → value_of (n ∷ nodes) r bits ≡ (if bits n.level then value_of nodes n.hi bits else value_of nodes n.lo bits)
    value = value-first n nodes r is

    Inside : Way → Type 0
    Inside w = (bits : Bits) → Follows w.0 bits → value_of (n ∷ nodes) r bits ≡ value_of (n ∷ nodes) w.1 bits

    Held : Way → Type 0
    Held w = w.1 < number_of_next (n ∷ nodes)

    Low : Way → Type 0
    Low w = level ≤ level_or levels (n ∷ nodes) w.1

    cover : (bits : Bits) (b : Bool) → bits n.level ≡ b → Any (λ w. Follows w.0 bits) (on n.level false lo ++ on n.level true hi)
    cover bits false at =
        let any = at_lo.covering bits in
        Any-left (λ w. Follows w.0 bits) (on n.level false lo) (on n.level true hi)
        (Any-map (λ w. Follows w.0 bits) (λ w. ((n.level, false) ∷ w.0, w.1)) lo (any.0, any.1, any.2, any.3, (at, any.4)))
    cover bits true at =
        let any = at_hi.covering bits in
        Any-right (λ w. Follows w.0 bits) (on n.level false lo) (on n.level true hi)
        (Any-map (λ w. Follows w.0 bits) (λ w. ((n.level, true) ∷ w.0, w.1)) hi (any.0, any.1, any.2, any.3, (at, any.4)))

ways-older : (level levels : ℕ) (n : Node) (nodes : List Node) (r : ℕ) → r < number_of_next nodes → (ways : List Way) → AreWaysTo level levels nodes r ways → AreWaysTo level levels (n ∷ nodes) r ways
ways-older level levels n nodes r is_held ways all = record {
  covering = all.covering;
  inside = λ k d within bits along. value-cons n nodes r is_held bits ∙ all.inside k d within bits along ∙ sym (value-cons n nodes (get_or ways k d).1 (all.held k d within) bits);
  held = λ k d within. let held = all.held k d within in omega arith;
  low = λ k d within.
      let low = all.low k d within in
      let same = level-cons n nodes levels (get_or ways k d).1 (all.held k d within) in
      omega (arith, low, same);
  order =
      let P : ℕ → Type 0 = λ floor. AreInOrder floor level (literals ways) in
      subst P (sym (level-cons n nodes levels r is_held)) all.order;
}

ways-to : (level levels : ℕ) → level ≤ levels → (nodes : List Node) → AreNodes levels nodes → (r : ℕ) → r < number_of_next nodes → AreWaysTo level levels nodes r (ways_of level nodes r)
ways-to level levels upto [] all r held = ways-end level levels [] r held upto
ways-to level levels upto (n ∷ nodes) all r held =
    by (r == number_of_next nodes) refl
    (λ within. ways-to level levels upto nodes all.1 r within)
    (ways-to level levels upto nodes all.1 n.lo all.0.lo_held)
    (ways-to level levels upto nodes all.1 n.hi all.0.hi_held)
  where
    P : List Way → Type 0
    P ways = AreWaysTo level levels (n ∷ nodes) r ways

    inner : Bool → Bool → List Way
    inner a b = if a then (if b then on n.level false (ways_of level nodes n.lo) ++ on n.level true (ways_of level nodes n.hi) else ([], r) ∷ []) else ways_of level nodes r

    at_node : (b : Bool) → nat_lt n.level level ≡ b → r ≡ number_of_next nodes → AreWaysTo level levels nodes n.lo (ways_of level nodes n.lo) → AreWaysTo level levels nodes n.hi (ways_of level nodes n.hi) → P (inner true b)
    at_node true less is lo hi = ways-inner level levels n nodes all.0 r is (ltb-true n.level level less) (ways_of level nodes n.lo) (ways_of level nodes n.hi) lo hi
    at_node false more is lo hi =
        let top = level-first n nodes levels r is in
        let under : level ≤ n.level = not_less (cases_lt n.level level) in
        ways-end level levels (n ∷ nodes) r held (omega (arith, top, under))
      where
        not_less : (n.level < level) ⊎ (level ≤ n.level) → level ≤ n.level
        not_less (inl less) = absurd (true≢false (sym (lt-ltb n.level level less) ∙ more))
        not_less (inr under) = under

    by : (b : Bool) → (r == number_of_next nodes) ≡ b → (r < number_of_next nodes → AreWaysTo level levels nodes r (ways_of level nodes r)) → AreWaysTo level levels nodes n.lo (ways_of level nodes n.lo) → AreWaysTo level levels nodes n.hi (ways_of level nodes n.hi) → P (ways_of level (n ∷ nodes) r)
    by true e rest lo hi =
        let is = eqb-true r (number_of_next nodes) e in
        subst P (sym (ap (λ a. inner a (nat_lt n.level level)) e)) (at_node (nat_lt n.level level) refl is lo hi)
    by false e rest lo hi =
        let within : r < number_of_next nodes = older nodes r (omega arith) e in
        subst P (sym (ap (λ a. inner a (nat_lt n.level level)) e)) (ways-older level levels n nodes r within (ways_of level nodes r) (rest within))

-- bits that go along a path, and others elsewhere
abbrev over : Path → Bits → Bits
over [] v = v
over (l ∷ path) v = changed (over path v) l.0 l.1

changed-other : (bits : Bits) (level : ℕ) (b : Bool) (k : ℕ) → (k ≡ level → ⊥) → changed bits level b k ≡ bits k
changed-other bits level b k differ = ap (λ same. if same then b else bits k) (false_from_ne_true (k == level) (λ e. differ (eqb-true k level e)))

-- the levels rise from this floor on
abbrev RisesFrom : ℕ → Path → Type 0
RisesFrom floor [] = Unit {0}
RisesFrom floor (l ∷ path) = (floor ≤ l.0) × RisesFrom (suc l.0) path

rises-from : (floor : ℕ) (path : Path) → IsStrictlyIncreasing (levels_on path) → All (λ l. floor ≤ l) (levels_on path) → RisesFrom floor path
rises-from floor [] rises above = tt
rises-from floor (l ∷ path) rises above = (
  above 0 0 (omega arith),
  rises-from (suc l.0) path
      (λ k within. let less = AllPairs-from_increasing (levels_on (l ∷ path)) rises (suc k) (suc (k + 1)) 0 (omega arith) (omega arith) in less)
      (λ k d within. let less = AllPairs-from_increasing (levels_on (l ∷ path)) rises 0 (suc k) d (omega arith) (omega arith) in omega (arith, less)),
)

follows-changed : (path : Path) (floor level : ℕ) (b : Bool) (bits : Bits) → RisesFrom floor path → level < floor → Follows path bits → Follows path (changed bits level b)
follows-changed [] floor level b bits rises above along = tt
follows-changed (l ∷ path) floor level b bits rises above along = (
  changed-other bits level b l.0 (λ same. let low = rises.0 in omega (arith, same, low)) ∙ along.0,
  follows-changed path (suc l.0) level b bits rises.1 (let low = rises.0 in omega (arith, low)) along.1,
)

follows-over : (path : Path) (floor : ℕ) (v : Bits) → RisesFrom floor path → Follows path (over path v)
follows-over [] floor v rises = tt
follows-over (l ∷ path) floor v rises = (
  changed-at (over path v) l.0 l.1,
  follows-changed path (suc l.0) l.0 l.1 (over path v) rises.1 (omega arith) (follows-over path (suc l.0) v rises.1),
)

over-above : (path : Path) (floor : ℕ) (v : Bits) → RisesFrom floor path → (k : ℕ) → k < floor → over path v k ≡ v k
over-above [] floor v rises k above = refl
over-above (l ∷ path) floor v rises k above =
    let low = rises.0 in
    changed-other (over path v) l.0 l.1 k (λ same. omega (arith, same, low)) ∙ over-above path (suc l.0) v rises.1 k (omega (arith, low))

-- bits that agree above the level go along the same paths
follows-above : (level : ℕ) (path : Path) → All (λ l. l < level) (levels_on path) → (u v : Bits) → SameAbove level u v → Follows path u → Follows path v
follows-above level [] within u v same along = tt
follows-above level (l ∷ path) within u v same along = (
  sym (same l.0 (within 0 0 (omega arith))) ∙ along.0,
  follows-above level path (All-tail (λ m. m < level) l.0 (levels_on path) within) u v same along.1,
)

-- a path before another one has bits that are less than any bits along the other one
record HasLess (floor level : ℕ) (p : Path) (v : Bits) : Type 0 where
  u : Bits
  along : Follows p u
  less : IsLess level u v
  from : floor ≤ less.at

before-less : (floor level : ℕ) (p q : Path) → IsBefore p q → RisesFrom floor p → All (λ l. l < level) (levels_on p) → (v : Bits) → Follows q v → HasLess floor level p v
before-less floor level [] q before rises within v along = absurd before
before-less floor level (l ∷ p) [] before rises within v along = absurd before
before-less floor level (l ∷ p) (m ∷ q) before rises within v follows = by before.1 (λ later. before-less (suc l.0) level p q later rises.1 (All-tail (λ k. k < level) l.0 (levels_on p) within) v follows.1)
  where
    at_v : v l.0 ≡ m.1
    at_v = ap v before.0 ∙ follows.0

    by : ((l.1 ≡ false) × (m.1 ≡ true)) ⊎ ((l.1 ≡ m.1) × IsBefore p q) → (IsBefore p q → HasLess (suc l.0) level p v) → HasLess floor level (l ∷ p) v
    by (inl parts) rest = record {
      u = over (l ∷ p) v;
      along = follows-over (l ∷ p) floor v rises;
      less = record {
        at = l.0;
        above = within 0 0 (omega arith);
        same = λ k above. changed-other (over p v) l.0 l.1 k (λ same. omega (arith, same, above)) ∙ over-above p (suc l.0) v rises.1 k (omega arith);
        zero = changed-at (over p v) l.0 l.1 ∙ parts.0;
        one = at_v ∙ parts.1;
      };
      from = rises.0;
    }
    by (inr equal) rest =
        let later = rest equal.1 in
        let from = later.from in
        let low = rises.0 in
        record {
          u = later.u;
          along = (later.less.same l.0 (omega (arith, from)) ∙ at_v ∙ sym equal.0, later.along);
          less = later.less;
          from = omega (arith, from, low);
        }

-- a level below this one, also where there are more levels below it
lower-top : (nodes : List Node) (few many level r : ℕ) → few ≤ many → level ≤ level_or many nodes r → min level few ≤ level_or few nodes r
lower-top [] few many level r grow low = omega arith
lower-top (n ∷ nodes) few many level r grow low =
    (elim (r == number_of_next nodes)
    as (λ b. level ≤ (if b then n.level else level_or many nodes r) → min level few ≤ (if b then n.level else level_or few nodes r))
    [ true ↦ λ is. omega arith | false ↦ λ is. lower-top nodes few many level r grow is ]) low

module _ (t : Table) (level f : ℕ) (valid : IsValid t f) where
  -- as many levels as the Space has, and as many as stand above this one
  abbrev levels : ℕ
  levels = max level t.levels

  abbrev ways : List Way
  ways = ways_of level t.nodes f

  abbrev whole : List ℕ
  whole = ends_of level t.nodes f

  abbrev refs : List ℕ
  refs = put_all [] whole

  all : AreNodes levels t.nodes
  all = AreNodes-rises t.levels levels (omega arith) t.nodes valid.table.nodes

  facts : AreWaysTo level levels t.nodes f ways
  facts = ways-to level levels (omega arith) t.nodes all f valid.held

  length-whole : length whole ≡ length ways
  length-whole = ap length (sym (ends-ways level t.nodes f)) ∙ length-map ways (λ w. w.1)

  end-at : (k : ℕ) (d : Way) → k < length ways → get_or whole k 0 ≡ (get_or ways k d).1
  end-at k d within = ap (λ l. get_or l k 0) (sym (ends-ways level t.nodes f)) ∙ get_or-map (λ w. w.1) ways k d 0 within

  path-at : (k : ℕ) (d : Way) → k < length ways → get_or (literals ways) k [] ≡ (get_or ways k d).0
  path-at k d within = get_or-map (λ w. w.0) ways k d [] within

  length-literals : length (literals ways) ≡ length ways
  length-literals = length-map ways (λ w. w.0)

  path-within : (k : ℕ) (d : Way) → k < length ways → All (λ l. l < level) (levels_on (get_or ways k d).0)
  path-within k d within =
      let P : Path → Type 0 = λ path. All (λ l. l < level) (levels_on path) in
      subst P (path-at k d within) (facts.order.within k [] (omega (arith, length-literals, within)))

  path-rises : (k : ℕ) (d : Way) → k < length ways → RisesFrom 0 (get_or ways k d).0
  path-rises k d within =
      let P : Path → Type 0 = λ path. IsStrictlyIncreasing (levels_on path) in
      rises-from 0 (get_or ways k d).0 (subst P (path-at k d within) (facts.order.rising k [] (omega (arith, length-literals, within)))) (λ j e inside. omega arith)

  -- bits along a way leave its end
  is-left : (k : ℕ) (d : Way) → k < length ways → (u : Bits) → Follows (get_or ways k d).0 u → IsLeft t level f u (get_or ways k d).1
  is-left k d within u along v same = facts.inside k d within v (follows-above level (get_or ways k d).0 (path-within k d within) u v same along)

  each-end : (P : ℕ → Type 0) → All (λ w. P w.1) ways → All P refs
  each-end P each =
      let Q : List ℕ → Type 0 = λ l. All P l in
      All-put_all P [] whole (λ k d within. absurd (omega arith)) (subst Q (ends-ways level t.nodes f) (All-map P (λ w. w.1) ways each))

  earlier : AllPairs (IsEarlier whole) refs
  earlier = earlier-put_all whole [] whole [] refl (λ s is. is) (λ s is. is) (λ i j d less within. absurd (omega arith))

  ordered : (r s : ℕ) → s < number_of_next t.nodes → level ≤ level_or levels t.nodes s → IsEarlier whole r s → (v : Bits) → IsLeft t level f v s → (u : Bits) × IsLeft t level f u r × IsLess level u v
  ordered r s s_held s_low early v left =
      let any = facts.covering v in
      let m : ℕ = any.0 in
      let w : Way = any.1 in
      let within : m < length ways = any.2 in
      let F : Way → Type 0 = λ x. Follows x.0 v in
      let along : F (get_or ways m w) = subst F (sym any.3) any.4 in
      let same : s ≡ (get_or ways m w).1 = left-unique level t levels f all v s (get_or ways m w).1 s_held (facts.held m w within) s_low (facts.low m w within) left (is-left m w within v along) in
      let less : early.at < m = early.before m (omega (arith, length-whole, within)) (end-at m w within ∙ sym same) in
      let first : early.at < length ways = omega (arith, less, within) in
      let P : Path → Type 0 = λ p. IsBefore p (get_or ways m w).0 in
      let Q : Path → Type 0 = λ q. IsBefore (get_or (literals ways) early.at []) q in
      let before : P (get_or ways early.at w).0 =
      subst P (path-at early.at w first) (subst Q (path-at m w within) (facts.order.ordered early.at m [] less (omega (arith, length-literals, within)))) in
      let found = before-less 0 level (get_or ways early.at w).0 (get_or ways m w).0 before (path-rises early.at w first) (path-within early.at w first) v along in
      let R : ℕ → Type 0 = λ x. IsLeft t level f found.u x in
      (found.u, subst R (sym (end-at early.at w first) ∙ early.is) (is-left early.at w first found.u found.along), found.less)

  held-refs : All (λ r. r < number_of_next t.nodes) refs
  held-refs = each-end (λ r. r < number_of_next t.nodes) facts.held

  low-refs : All (λ r. level ≤ level_or levels t.nodes r) refs
  low-refs = each-end (λ r. level ≤ level_or levels t.nodes r) facts.low

  pub is-cut : IsCut t level f refs
  is-cut = record {
    valid = each-end (IsValid t) (λ k d within. record { table = valid.table; held = facts.held k d within });
    below = each-end (λ r. min level t.levels ≤ top_of t r) (λ k d within. lower-top t.nodes t.levels levels level (get_or ways k d).1 (omega arith) (facts.low k d within));
    different = λ i j d less within same.
        let early = earlier i j d less within in
        let wrong = early.before early.at early.within (early.is ∙ same) in
        omega (arith, wrong);
    covering = λ u.
        let any = facts.covering u in
        let F : Way → Type 0 = λ x. Follows x.0 u in
        let along : F (get_or ways any.0 any.1) = subst F (sym any.3) any.4 in
        let end = (get_or ways any.0 any.1).1 in
        among-any (IsLeft t level f u) refs end
        (put_all-in [] whole end (among-at whole any.0 end (omega (arith, length-whole, any.2)) (end-at any.0 any.1 any.2)))
        (is-left any.0 any.1 any.2 u along);
    reached = each-end (λ r. (u : Bits) × IsLeft t level f u r) (λ k d within.
        let u : Bits = over (get_or ways k d).0 (λ _. false) in
        (u, is-left k d within u (follows-over (get_or ways k d).0 0 (λ _. false) (path-rises k d within))));
    ordered = λ i j d less within. ordered (get_or refs i d) (get_or refs j d) (held-refs j d within) (low-refs j d within) (earlier i j d less within);
  }
