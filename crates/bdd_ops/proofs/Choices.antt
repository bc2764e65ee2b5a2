-- How what is known of refs lasts while a Space grows, and what a node over two answers gives.
use Rattle.std.proofs.Common.{◌≡◌, ◌&&◌, ◌||◌, not, ℕ, Bool, true, false, if◌then◌else◌, min, refl, sym, ◌∙◌, arith}
use Rattle.node_table.specs.Table.{Bits, Table, value_at, Grows, Makes}
use Rattle.node_table.proofs.Growth.{valid-grows}
use Rattle.bdd_ops.specs.declared.choice.Choice.{Choice}
use Rattle.bdd_ops.specs.Recursion.{AreValid, ite_value, low_of, StandsBelow, AreCofactors, IsIte}

module _ (a b : Table) (grow : Grows a b) where
  pub choice-grows : (c : Choice) → AreValid a c → AreValid b c
  choice-grows c all = record { f = valid-grows a b grow c.f all.f; g = valid-grows a b grow c.g all.g; h = valid-grows a b grow c.h all.h }

  pub ite-grows : (c : Choice) → AreValid a c → (bits : Bits) → ite_value b c bits ≡ ite_value a c bits
  ite-grows c all bits = λ i. if grow.value c.f all.f.held bits i then grow.value c.g all.g.held bits i else grow.value c.h all.h.held bits i

  module _ (levels : b.levels ≡ a.levels) where
    pub low-grows : (c : Choice) → AreValid a c → low_of b c ≡ low_of a c
    low-grows c all = λ i. min (grow.top levels c.f all.f.held i) (min (grow.top levels c.g all.g.held i) (grow.top levels c.h all.h.held i))

    pub stands-grows : (floor r : ℕ) (meaning : Bits → Bool) → StandsBelow a floor r meaning → StandsBelow b floor r meaning
    stands-grows floor r meaning s = record {
      valid = valid-grows a b grow r s.valid;
      top = let same = grow.top levels r s.valid.held in omega (arith, same, s.top);
      value = λ bits. grow.value r s.valid.held bits ∙ s.value bits;
    }

    -- an answer at c, said of the grown Space
    pub ite-later : (c : Choice) (r : ℕ) → AreValid a c → StandsBelow b (low_of a c) r (ite_value a c) → IsIte b c r
    ite-later c r all s = record {
      valid = s.valid;
      top = let same = low-grows c all in omega (arith, same, s.top);
      value = λ bits. s.value bits ∙ sym (ite-grows c all bits);
    }

    pub IsIte-grows : (c : Choice) (r : ℕ) → AreValid a c → IsIte a c r → IsIte b c r
    IsIte-grows c r all s = ite-later c r all (stands-grows (low_of a c) r (ite_value a c) s)

-- a meaning by what it is where the bit at a level is 0, and where it is 1
pub by-bit : (level : ℕ) (low high meaning : Bits → Bool) → ((bits : Bits) → bits level ≡ false → low bits ≡ meaning bits) → ((bits : Bits) → bits level ≡ true → high bits ≡ meaning bits) → (bits : Bits) → (if bits level then high bits else low bits) ≡ meaning bits
by-bit level low high meaning zeroes ones bits = by (bits level) refl
  where
    by : (b : Bool) → bits level ≡ b → (if b then high bits else low bits) ≡ meaning bits
    by false at = zeroes bits at
    by true at = ones bits at

-- the answers of `ite` at both cofactors are its answer
pub ite-node : {t a b : Table} {c c0 c1 : Choice} {level lo hi p q : ℕ} → AreCofactors t level false c c0 → AreCofactors t level true c c1 → Grows t a → Grows a b → StandsBelow a p lo (ite_value t c0) → StandsBelow b q hi (ite_value a c1) → (bits : Bits) → (if bits level then value_at b hi bits else value_at b lo bits) ≡ ite_value t c bits
ite-node {t} {a} {b} {c} {c0} {c1} {level} {lo} {hi} zeroes ones first second low high =
    by-bit level (value_at b lo) (value_at b hi) (ite_value t c)
    (λ bits at. second.value lo low.valid.held bits ∙ low.value bits ∙ sym (zeroes.value bits at))
    (λ bits at. high.value bits ∙ ite-grows t a first c1 ones.valid bits ∙ sym (ones.value bits at))

-- a node over them stands for it
pub ite-step : {t a b new : Table} {c c0 c1 : Choice} {level lo hi r p q : ℕ} → level ≡ low_of t c → AreCofactors t level false c c0 → AreCofactors t level true c c1 → Grows t a → Grows a b → StandsBelow a p lo (ite_value t c0) → StandsBelow b q hi (ite_value a c1) → Makes b new level lo hi r → StandsBelow new (low_of t c) r (ite_value t c)
ite-step is zeroes ones first second low high made = record {
  valid = made.valid;
  top = omega (arith, is, made.top);
  value = λ bits. made.value bits ∙ ite-node zeroes ones first second low high bits;
}

-- the connectives as `ite` at constants
pub and-ite : (a b z : Bool) → z ≡ false → (if a then b else z) ≡ (a && b)
and-ite true b z is = refl
and-ite false b z is = is

pub or-ite : (a b o : Bool) → o ≡ true → (if a then o else b) ≡ (a || b)
or-ite true b o is = is
or-ite false b o is = refl

pub not-ite : (a z o : Bool) → z ≡ false → o ≡ true → (if a then z else o) ≡ not a
not-ite true z o low high = low
not-ite false z o low high = high
