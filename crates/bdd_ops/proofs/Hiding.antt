-- What hiding levels gives, step by step.
use Rattle.std.proofs.Common.{◌≡◌, ◌==◌, ◌<◌, ◌≤◌, ◌⊎◌, ℕ, Bool, true, false, if◌then◌else◌, List, refl, sym, ap, ◌∙◌, inl, inr, arith}
use Rattle.std.proofs.lemmas.Bool.{eqb-true, eq-eqb, true≢false, false_from_ne_true, cases_lt}
use Rattle.node_table.specs.Table.{Bits, Table, value_at, Grows, Makes}
use Rattle.node_table.proofs.Nodes.{value-zero, value-one}
use Rattle.node_table.proofs.Canonical.{changed, value-below, value-changed}
use Rattle.node_table.proofs.Growth.{valid-grows}
use Rattle.bdd_ops.specs.declared.choice.Choice.{Choice}
use Rattle.bdd_ops.specs.Levels.{is_in, SameOutside}
use Rattle.bdd_ops.specs.Meaning.{HasSome}
use Rattle.bdd_ops.specs.Recursion.{AreValid, ite_value, low_of, StandsBelow, HidesBelow, IsHidden}
use Rattle.bdd_ops.proofs.Choices.{ite-grows, low-grows}

-- the value of a constant is the same at all bits
pub value-constant : (t : Table) (r : ℕ) → r < 2 → (u v : Bits) → value_at t r u ≡ value_at t r v
value-constant t r constant u v = by (cases_lt r 1)
  where
    by : (r < 1) ⊎ (1 ≤ r) → value_at t r u ≡ value_at t r v
    by (inl small) = let is : r ≡ 0 = omega arith in rw is (value-zero t.nodes u ∙ sym (value-zero t.nodes v))
    by (inr large) = let is : r ≡ 1 = omega arith in rw is (value-one t.nodes u ∙ sym (value-one t.nodes v))

pub changed-at : (bits : Bits) (level : ℕ) (b : Bool) → changed bits level b level ≡ b
changed-at bits level b = ap (λ same. if same then b else bits level) (eq-eqb level level refl)

-- three diagrams below a level don't ask its bit
pub ite-free : (t : Table) (c : Choice) → AreValid t c → (level : ℕ) → level < low_of t c → (bits : Bits) (b : Bool) → ite_value t c (changed bits level b) ≡ ite_value t c bits
ite-free t c all level above bits b =
    let f = value-changed t.levels t.nodes all.f.table.nodes c.f all.f.held level (omega (arith, above)) bits b in
    let g = value-changed t.levels t.nodes all.f.table.nodes c.g all.g.held level (omega (arith, above)) bits b in
    let h = value-changed t.levels t.nodes all.f.table.nodes c.h all.h.held level (omega (arith, above)) bits b in
    λ i. if f i then g i else h i

module _ (levels : List ℕ) where
  -- a value as it is: no bit has to change
  pub has-itself : (meaning : Bits → Bool) (bits : Bits) → meaning bits ≡ true → HasSome levels meaning bits
  has-itself meaning bits is = (bits, λ k out. refl, is)

  -- nothing is to be hidden in a constant
  pub constant-hides : (t : Table) (floor r : ℕ) (meaning : Bits → Bool) → r < 2 → StandsBelow t floor r meaning → HidesBelow t floor r levels meaning
  constant-hides t floor r meaning constant s = record {
    valid = s.valid;
    top = s.top;
    found = λ bits is. has-itself meaning bits (sym (s.value bits) ∙ is);
    holds = λ bits some. value-constant t r constant bits some.0 ∙ s.value some.0 ∙ some.2;
  }

  -- nothing is to be hidden where all the levels stand above
  pub above-hides : (t : Table) (floor r : ℕ) (meaning : Bits → Bool) → ((k : ℕ) → floor ≤ k → is_in levels k ≡ false) → StandsBelow t floor r meaning → HidesBelow t floor r levels meaning
  above-hides t floor r meaning above s = record {
    valid = s.valid;
    top = s.top;
    found = λ bits is. has-itself meaning bits (sym (s.value bits) ∙ is);
    holds = λ bits some.
        value-below t.levels t.nodes s.valid.table.nodes r s.valid.held bits some.0 (λ k low. sym (some.1 k (above k (omega (arith, low, s.top)))))
        ∙ s.value some.0
        ∙ some.2;
  }

  -- another word for the same meaning
  pub hides-same : (t : Table) (floor r : ℕ) (meaning other : Bits → Bool) → ((bits : Bits) → meaning bits ≡ other bits) → HidesBelow t floor r levels meaning → HidesBelow t floor r levels other
  hides-same t floor r meaning other same s = record {
    valid = s.valid;
    top = s.top;
    found = λ bits is. let some = s.found bits is in (some.0, some.1, sym (same some.0) ∙ some.2);
    holds = λ bits some. s.holds bits (some.0, some.1, same some.0 ∙ some.2);
  }

  module _ (a b : Table) (grow : Grows a b) (same : b.levels ≡ a.levels) where
    pub hides-grows : (floor r : ℕ) (meaning : Bits → Bool) → HidesBelow a floor r levels meaning → HidesBelow b floor r levels meaning
    hides-grows floor r meaning s = record {
      valid = valid-grows a b grow r s.valid;
      top = let top = grow.top same r s.valid.held in omega (arith, top, s.top);
      found = λ bits is. s.found bits (sym (grow.value r s.valid.held bits) ∙ is);
      holds = λ bits some. grow.value r s.valid.held bits ∙ s.holds bits some;
    }

    -- an answer at c, said of the grown Space
    pub hides-later : (c : Choice) (r : ℕ) → AreValid a c → HidesBelow b (low_of a c) r levels (ite_value a c) → IsHidden levels b c r
    hides-later c r all s = record {
      valid = s.valid;
      top = let low = low-grows a b grow same c all in omega (arith, low, s.top);
      found = λ bits is. let some = s.found bits is in (some.0, some.1, ite-grows a b grow c all some.0 ∙ some.2);
      holds = λ bits some. s.holds bits (some.0, some.1, sym (ite-grows a b grow c all some.0) ∙ some.2);
    }

    pub IsHidden-grows : (c : Choice) (r : ℕ) → AreValid a c → IsHidden levels a c r → IsHidden levels b c r
    IsHidden-grows c r all s = hides-later c r all (hides-grows (low_of a c) r (ite_value a c) s)

  -- one level, at which a meaning is one of two others by its bit
  module _ (level : ℕ) (meaning low high : Bits → Bool) (low_is : (bits : Bits) → bits level ≡ false → meaning bits ≡ low bits) (high_is : (bits : Bits) → bits level ≡ true → meaning bits ≡ high bits) where
    -- the level stays
    pub kept-found-low : is_in levels level ≡ false → (bits : Bits) → bits level ≡ false → HasSome levels low bits → HasSome levels meaning bits
    kept-found-low out bits at some = (some.0, some.1, low_is some.0 (some.1 level out ∙ at) ∙ some.2)

    pub kept-found-high : is_in levels level ≡ false → (bits : Bits) → bits level ≡ true → HasSome levels high bits → HasSome levels meaning bits
    kept-found-high out bits at some = (some.0, some.1, high_is some.0 (some.1 level out ∙ at) ∙ some.2)

    pub kept-holds-low : is_in levels level ≡ false → (bits : Bits) → bits level ≡ false → HasSome levels meaning bits → HasSome levels low bits
    kept-holds-low out bits at some = (some.0, some.1, sym (low_is some.0 (some.1 level out ∙ at)) ∙ some.2)

    pub kept-holds-high : is_in levels level ≡ false → (bits : Bits) → bits level ≡ true → HasSome levels meaning bits → HasSome levels high bits
    kept-holds-high out bits at some = (some.0, some.1, sym (high_is some.0 (some.1 level out ∙ at)) ∙ some.2)

    -- what a node over both answers has
    module _ (out : is_in levels level ≡ false) (t : Table) (lo hi p q : ℕ) (zeroes : HidesBelow t p lo levels low) (ones : HidesBelow t q hi levels high) where
      pub kept-found : (bits : Bits) → (if bits level then value_at t hi bits else value_at t lo bits) ≡ true → HasSome levels meaning bits
      kept-found bits = by (bits level) refl
        where
          by : (b : Bool) → bits level ≡ b → (if b then value_at t hi bits else value_at t lo bits) ≡ true → HasSome levels meaning bits
          by false at is = kept-found-low out bits at (zeroes.found bits is)
          by true at is = kept-found-high out bits at (ones.found bits is)

      pub kept-holds : (bits : Bits) → HasSome levels meaning bits → (if bits level then value_at t hi bits else value_at t lo bits) ≡ true
      kept-holds bits some = by (bits level) refl
        where
          by : (b : Bool) → bits level ≡ b → (if b then value_at t hi bits else value_at t lo bits) ≡ true
          by false at = zeroes.holds bits (kept-holds-low out bits at some)
          by true at = ones.holds bits (kept-holds-high out bits at some)

      -- the node itself
      pub kept-step : (new : Table) (r : ℕ) → Makes t new level lo hi r → HidesBelow new level r levels meaning
      kept-step new r made = record {
        valid = made.valid;
        top = made.top;
        found = λ bits is. kept-found bits (sym (made.value bits) ∙ is);
        holds = λ bits some. made.value bits ∙ kept-holds bits some;
      }

    -- the level goes
    module _ (member : is_in levels level ≡ true) (low_free : (bits : Bits) (b : Bool) → low (changed bits level b) ≡ low bits) (high_free : (bits : Bits) (b : Bool) → high (changed bits level b) ≡ high bits) where
      same-changed : (u bits : Bits) (b : Bool) → SameOutside levels u bits → SameOutside levels (changed u level b) bits
      same-changed u bits b same k out =
          ap (λ is. if is then b else u k) (false_from_ne_true (k == level) (λ e. true≢false (sym member ∙ ap (is_in levels) (sym (eqb-true k level e)) ∙ out)))
          ∙ same k out

      pub gone-found-low : (bits : Bits) → HasSome levels low bits → HasSome levels meaning bits
      gone-found-low bits some = (
        changed some.0 level false,
        same-changed some.0 bits false some.1,
        low_is (changed some.0 level false) (changed-at some.0 level false) ∙ low_free some.0 false ∙ some.2,
      )

      pub gone-found-high : (bits : Bits) → HasSome levels high bits → HasSome levels meaning bits
      gone-found-high bits some = (
        changed some.0 level true,
        same-changed some.0 bits true some.1,
        high_is (changed some.0 level true) (changed-at some.0 level true) ∙ high_free some.0 true ∙ some.2,
      )

      pub gone-holds : (bits : Bits) → HasSome levels meaning bits → HasSome levels low bits ⊎ HasSome levels high bits
      gone-holds bits some = by (some.0 level) refl
        where
          by : (b : Bool) → some.0 level ≡ b → HasSome levels low bits ⊎ HasSome levels high bits
          by false at = inl (some.0, some.1, sym (low_is some.0 at) ∙ some.2)
          by true at = inr (some.0, some.1, sym (high_is some.0 at) ∙ some.2)

      -- what the disjunction of both answers has
      module _ (t : Table) (lo hi one p q : ℕ) (zeroes : HidesBelow t p lo levels low) (ones : HidesBelow t q hi levels high) (one_is : one ≡ 1) where
        one_value : (bits : Bits) → value_at t one bits ≡ true
        one_value bits = rw one_is (value-one t.nodes bits)

        pub gone-found : (bits : Bits) → ite_value t (record { f = lo; g = one; h = hi }) bits ≡ true → HasSome levels meaning bits
        gone-found bits = by (value_at t lo bits) refl
          where
            by : (b : Bool) → value_at t lo bits ≡ b → (if value_at t lo bits then value_at t one bits else value_at t hi bits) ≡ true → HasSome levels meaning bits
            by true at is = gone-found-low bits (zeroes.found bits at)
            by false at is = gone-found-high bits (ones.found bits (sym (ap (λ b. if b then value_at t one bits else value_at t hi bits) at) ∙ is))

        either-holds : (bits : Bits) → HasSome levels low bits ⊎ HasSome levels high bits → (if value_at t lo bits then value_at t one bits else value_at t hi bits) ≡ true
        either-holds bits (inl some) = ap (λ b. if b then value_at t one bits else value_at t hi bits) (zeroes.holds bits some) ∙ one_value bits
        either-holds bits (inr some) = by (value_at t lo bits)
          where
            by : (b : Bool) → (if b then value_at t one bits else value_at t hi bits) ≡ true
            by true = one_value bits
            by false = ones.holds bits some

        pub gone-has : (bits : Bits) → HasSome levels meaning bits → ite_value t (record { f = lo; g = one; h = hi }) bits ≡ true
        gone-has bits some = either-holds bits (gone-holds bits some)

        -- the one answer, or the other
        pub gone-step : (new : Table) (r floor : ℕ) → level ≤ floor → StandsBelow new floor r (ite_value t (record { f = lo; g = one; h = hi })) → HidesBelow new level r levels meaning
        gone-step new r floor under either = record {
          valid = either.valid;
          top = omega (arith, either.top, under);
          found = λ bits is. gone-found bits (sym (either.value bits) ∙ is);
          holds = λ bits some. either.value bits ∙ gone-has bits some;
        }

      -- the first answer is 1 already
      pub gone-one : (t : Table) (lo p : ℕ) → HidesBelow t p lo levels low → level ≤ p → lo ≡ 1 → HidesBelow t level lo levels meaning
      gone-one t lo p zeroes under is = record {
        valid = zeroes.valid;
        top = omega (arith, zeroes.top, under);
        found = λ bits one. gone-found-low bits (zeroes.found bits one);
        holds = λ bits some. rw is (value-one t.nodes bits);
      }
