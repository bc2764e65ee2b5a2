-- Where an answer on the way to a hidden one was wanted and not made.
use Rattle.std.proofs.Common.{◌≡◌, ◌+◌, ◌≤◌, ◌∙◌, ℕ, Bool, true, false, if◌then◌else◌, max, List, sym, ap, arith}
use Rattle.std.specs.Prelude.{nat_lt}
use Rattle.std.proofs.lemmas.Bool.{ltb-true, lt-ltb, le-ltb, ne_eqb}
use Rattle.node_table.specs.Table.{Bits, Table, value_at}
use Rattle.node_table.proofs.Canonical.{changed, value-below}
use Rattle.bdd_ops.specs.declared.choice.Choice.{Choice}
use Rattle.bdd_ops.specs.Levels.{is_in}
use Rattle.bdd_ops.specs.Meaning.{HasSome, StandsForHidden, IsMissing, joined, IsShort}
use Rattle.bdd_ops.specs.Recursion.{AreValid, ite_value, low_of, AreCofactors}
use Rattle.bdd_ops.proofs.Members.{same-tests}
use Rattle.bdd_ops.proofs.Hiding.{changed-at, has-itself}

-- three diagrams ask no bit above their levels
ite-below : (t : Table) (c : Choice) → AreValid t c → (u v : Bits) → ((k : ℕ) → low_of t c ≤ k → u k ≡ v k) → ite_value t c u ≡ ite_value t c v
ite-below t c all u v same =
    let f = value-below t.levels t.nodes all.f.table.nodes c.f all.f.held u v (λ k low. same k (omega (arith, low))) in
    let g = value-below t.levels t.nodes all.f.table.nodes c.g all.g.held u v (λ k low. same k (omega (arith, low))) in
    let h = value-below t.levels t.nodes all.f.table.nodes c.h all.h.held u v (λ k low. same k (omega (arith, low))) in
    λ i. if f i then g i else h i

module _ (t : Table) (levels : List ℕ) where
  -- another word for the same meaning
  hidden-same : (r : ℕ) (meaning other : Bits → Bool) → ((bits : Bits) → meaning bits ≡ other bits) → StandsForHidden t r levels meaning → StandsForHidden t r levels other
  hidden-same r meaning other same h = record {
    valid = h.valid;
    found = λ bits is. let some = h.found bits is in (some.0, some.1, sym (same some.0) ∙ some.2);
    holds = λ bits some. h.holds bits (some.0, some.1, same some.0 ∙ some.2);
  }

  pub short-same : (meaning other : Bits → Bool) → ((bits : Bits) → meaning bits ≡ other bits) → IsShort t levels meaning → IsShort t levels other
  short-same meaning other same short = record {
    level = short.level;
    above = short.above;
    missing = λ r h.
        short.missing r (hidden-same r (λ bits. other (joined short.level short.above bits)) (λ bits. meaning (joined short.level short.above bits)) (λ bits. sym (same (joined short.level short.above bits))) h);
  }

  plain : (above bits : Bits) → joined 0 above bits ≡ bits
  plain above bits i k = if le-ltb k 0 (omega arith) i then above k else bits k

  -- the answer itself is missing
  pub missing-short : (meaning value : Bits → Bool) → ((bits : Bits) → value bits ≡ true → HasSome levels meaning bits) → ((bits : Bits) → HasSome levels meaning bits → value bits ≡ true) → IsMissing t value → IsShort t levels meaning
  missing-short meaning value found holds missing = record {
    level = 0;
    above = λ k. false;
    missing = λ r h.
        missing r h.valid (λ bits.
        same-tests (value_at t r bits) (value bits)
        (λ is. let some = h.found bits is in holds bits (some.0, some.1, sym (ap meaning (plain (λ k. false) some.0)) ∙ some.2))
        (λ is. let some = found bits is in h.holds bits (some.0, some.1, ap meaning (plain (λ k. false) some.0) ∙ some.2)));
  }

  -- no levels are hidden from these diagrams
  pub above-short : (a : Table) (c : Choice) → AreValid a c → ((k : ℕ) → low_of a c ≤ k → is_in levels k ≡ false) → IsMissing t (ite_value a c) → IsShort t levels (ite_value a c)
  above-short a c all out missing =
      missing-short (ite_value a c) (ite_value a c) (λ bits is. has-itself levels (ite_value a c) bits is)
      (λ bits some. ite-below a c all bits some.0 (λ k low. sym (some.1 k (out k low))) ∙ some.2)
      missing

  -- what is left once the bit at a level is fixed is short, and so is the whole
  short-cofactor : (level : ℕ) (bit : Bool) (meaning left : Bits → Bool) → ((u v : Bits) → ((k : ℕ) → level + 1 ≤ k → u k ≡ v k) → left u ≡ left v) → ((bits : Bits) → bits level ≡ bit → meaning bits ≡ left bits) → IsShort t levels left → IsShort t levels meaning
  short-cofactor level bit meaning left free is short = record {
    level = last;
    above = fixed;
    missing = λ r h. short.missing r (hidden-same r (λ bits. meaning (joined last fixed bits)) (λ bits. left (joined short.level short.above bits)) same h);
  }
    where
      last : ℕ
      last = max short.level (level + 1)

      fixed : Bits
      fixed = changed short.above level bit

      at : (bits : Bits) → joined last fixed bits level ≡ bit
      at bits = ap (λ b. if b then fixed level else bits level) (lt-ltb level last (omega arith)) ∙ changed-at short.above level bit

      agree : (bits : Bits) (k : ℕ) → level + 1 ≤ k → joined last fixed bits k ≡ joined short.level short.above bits k
      agree bits k low =
          let test : nat_lt k last ≡ nat_lt k short.level =
          same-tests (nat_lt k last) (nat_lt k short.level)
          (λ e. let less = ltb-true k last e in lt-ltb k short.level (omega (arith, less, low)))
          (λ e. let less = ltb-true k short.level e in lt-ltb k last (omega (arith, less))) in
          let other : fixed k ≡ short.above k = ap (λ b. if b then bit else short.above k) (ne_eqb k level (λ e. omega (arith, e, low))) in
          λ i. if test i then other i else bits k

      same : (bits : Bits) → meaning (joined last fixed bits) ≡ left (joined short.level short.above bits)
      same bits = is (joined last fixed bits) (at bits) ∙ free (joined last fixed bits) (joined short.level short.above bits) (agree bits)

  -- `ite` below one of its steps
  pub ite-short : {a : Table} {c d : Choice} {level : ℕ} {bit : Bool} → AreCofactors a level bit c d → IsShort t levels (ite_value a d) → IsShort t levels (ite_value a c)
  ite-short {a} {c} {d} {level} {bit} cofactors short =
      short-cofactor level bit (ite_value a c) (ite_value a d)
      (λ u v same. ite-below a d cofactors.valid u v (λ k low. same k (omega (arith, low, cofactors.below))))
      cofactors.value short
