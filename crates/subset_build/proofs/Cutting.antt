-- What an image leaves at a letter is the next set.
use Rattle.std.proofs.Common.{◌≡◌, ◌==◌, ◌<◌, ◌≤◌, ◌||◌, ℕ, Bool, true, false, nat_lt, if◌then◌else◌, List, [], ◌∷◌, refl, sym, ap, ◌∙◌, arith}
use Rattle.std.proofs.lemmas.Bool.{lt-ltb, le-ltb, eqb-true, eq-eqb, true≢false, false≢true}
use Rattle.node_table.specs.Table.{Bits, Table, value_at, top_of, IsValid}
use Rattle.node_table.proofs.Canonical.{value-below}
use Rattle.bdd_ops.specs.Levels.{is_in, SameAt, sources, renamed}
use Rattle.bdd_ops.proofs.Members.{same-tests}
use Rattle.bdd_walk.specs.Cuts.{IsLeft}
use Rattle.subset_build.specs.Relations.{Relation, StepsBy, present_of}
use Rattle.subset_build.specs.Subsets.{IsNext, IsImage}

-- the bits that a map reads are those of its targets
renamed-same : (state : List (ℕ × ℕ)) (u v : Bits) → SameAt (present_of state) u v → (k : ℕ) → is_in (sources state) k ≡ true → renamed state u k ≡ renamed state v k
renamed-same [] u v same k member = absurd (false≢true member)
renamed-same (p ∷ state) u v same k member = pick (k == p.0) refl (renamed-same state u v (λ j now. same j (either (p.1 == j) now)) k)
  where
    either : (b : Bool) {c : Bool} → c ≡ true → (b || c) ≡ true
    either true is = refl
    either false is = is

    behind : (b : Bool) → (p.0 == k) ≡ b → (k == p.0) ≡ false → ((p.0 == k) || is_in (sources state) k) ≡ true → is_in (sources state) k ≡ true
    behind true at other member = absurd (true≢false (sym (eq-eqb k p.0 (sym (eqb-true p.0 k at))) ∙ other))
    behind false at other member = sym (ap (λ b. b || is_in (sources state) k) at) ∙ member

    pick : (b : Bool) → (k == p.0) ≡ b → (is_in (sources state) k ≡ true → renamed state u k ≡ renamed state v k) → (if k == p.0 then u p.1 else renamed state u k) ≡ (if k == p.0 then v p.1 else renamed state v k)
    pick true at later =
        ap (λ b. if b then u p.1 else renamed state u k) at
        ∙ same p.1 (ap (λ b. b || is_in (present_of state) p.1) (eq-eqb p.1 p.1 refl))
        ∙ sym (ap (λ b. if b then v p.1 else renamed state v k) at)
    pick false at later =
        ap (λ b. if b then u p.1 else renamed state u k) at
        ∙ later (behind (p.0 == k) refl at member)
        ∙ sym (ap (λ b. if b then v p.1 else renamed state v k) at)

-- the letter of one and the state of the other
abbrev pub mixed : ℕ → Bits → Bits → Bits
mixed level a r k = if nat_lt k level then a k else r k

mixed-above : (level : ℕ) (a r : Bits) (k : ℕ) → k < level → mixed level a r k ≡ a k
mixed-above level a r k less = ap (λ b. if b then a k else r k) (lt-ltb k level less)

mixed-below : (level : ℕ) (a r : Bits) (k : ℕ) → level ≤ k → mixed level a r k ≡ r k
mixed-below level a r k more = ap (λ b. if b then a k else r k) (le-ltb k level more)

-- a ref below the level doesn't ask for bits above it
below-same : (t : Table) (r level : ℕ) → IsValid t r → level ≤ top_of t r → (u v : Bits) → ((k : ℕ) → level ≤ k → u k ≡ v k) → value_at t r u ≡ value_at t r v
below-same t r level valid low u v same = value-below t.levels t.nodes valid.table.nodes r valid.held u v (λ k at. same k (omega (arith, low, at)))

module _ (t : Table) (rel : Relation) (level : ℕ) (above : (k : ℕ) → is_in rel.keep k ≡ true → k < level)
    (next_below : (k : ℕ) → is_in (sources rel.state) k ≡ true → level ≤ k) (present_below : (k : ℕ) → is_in (present_of rel.state) k ≡ true → level ≤ k)
    (from : Bits → Bool) (from_depends : (u v : Bits) → SameAt (present_of rel.state) u v → from u ≡ from v)
    (f : ℕ) (image : IsImage t rel from f) where
  -- a step at mixed bits is one by the letter to the state
  to-step : (q a r : Bits) → StepsBy rel q (mixed level a r) (mixed level a r) → StepsBy rel q a r
  to-step q a r (u, j) = (
    u,
    record {
      now = j.now;
      letter = λ k member. j.letter k member ∙ mixed-above level a r k (above k member);
      next = λ k member. j.next k member ∙ renamed-same rel.state (mixed level a r) r (λ i now. mixed-below level a r i (present_below i now)) k member;
      is_step = j.is_step;
    },
  )

  from-step : (q a r : Bits) → StepsBy rel q a r → StepsBy rel q (mixed level a r) (mixed level a r)
  from-step q a r (u, j) = (
    u,
    record {
      now = j.now;
      letter = λ k member. j.letter k member ∙ sym (mixed-above level a r k (above k member));
      next = λ k member. j.next k member ∙ sym (renamed-same rel.state (mixed level a r) r (λ i now. mixed-below level a r i (present_below i now)) k member);
      is_step = j.is_step;
    },
  )

  module _ (a : Bits) (s : ℕ) (valid : IsValid t s) (low : level ≤ top_of t s) (left : IsLeft t level f a s) where
    at-mixed : (r : Bits) → value_at t f (mixed level a r) ≡ value_at t s r
    at-mixed r =
        left (mixed level a r) (λ k less. sym (mixed-above level a r k less))
        ∙ below-same t s level valid low (mixed level a r) r (λ k more. mixed-below level a r k more)

    pub left-is-next : IsNext rel from a (value_at t s)
    left-is-next = record {
      found = λ r is. let (q, one, step) = image.found (mixed level a r) (at-mixed r ∙ is) in (q, one, to-step q a r step);
      has = λ q r one step. sym (at-mixed r) ∙ image.has q (mixed level a r) one (from-step q a r step);
    }

  -- the next set reads the present state alone
  pub next-depends : (a : Bits) (to : Bits → Bool) → IsNext rel from a to → (u v : Bits) → SameAt (present_of rel.state) u v → to u ≡ to v
  next-depends a to next u v same = same-tests (to u) (to v) (later u v same) (later v u (λ k now. sym (same k now)))
    where
      later : (u v : Bits) → SameAt (present_of rel.state) u v → to u ≡ true → to v ≡ true
      later u v same is =
          let (q, one, (w, j)) = next.found u is in
          next.has q v one (w, record { now = j.now; letter = j.letter; next = λ k member. j.next k member ∙ renamed-same rel.state u v same k member; is_step = j.is_step })

  -- the image reads the letter and the present state alone
  pub image-reads : (u v : Bits) → SameAt rel.keep u v → SameAt (present_of rel.state) u v → value_at t f u ≡ value_at t f v
  image-reads u v letter now = same-tests (value_at t f u) (value_at t f v) (later u v letter now) (later v u (λ k m. sym (letter k m)) (λ k m. sym (now k m)))
    where
      later : (u v : Bits) → SameAt rel.keep u v → SameAt (present_of rel.state) u v → value_at t f u ≡ true → value_at t f v ≡ true
      later u v letter now is =
          let (q, one, (w, j)) = image.found u is in
          image.has q v one (w, record { now = j.now; letter = λ k m. j.letter k m ∙ letter k m; next = λ k m. j.next k m ∙ renamed-same rel.state u v now k m; is_step = j.is_step })

  -- bits of one letter leave the same
  pub left-same : (a b : Bits) (s : ℕ) → IsValid t s → level ≤ top_of t s → SameAt rel.keep a b → IsLeft t level f a s → IsLeft t level f b s
  left-same a b s valid low same left v above_same =
      image-reads v (mixed level a v)
      (λ k m. sym (above_same k (above k m)) ∙ sym (same k m) ∙ sym (mixed-above level a v k (above k m)))
      (λ k m. sym (mixed-below level a v k (present_below k m)))
      ∙ left (mixed level a v) (λ k less. sym (mixed-above level a v k less))
      ∙ below-same t s level valid low (mixed level a v) v (λ k more. mixed-below level a v k more)
