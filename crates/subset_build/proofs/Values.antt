-- What the values of diagrams depend on, and that some bits are in a set that isn't empty.
use Rattle.std.proofs.Common.{◌≡◌, ◌==◌, ◌<◌, ◌&&◌, ℕ, zero, suc, Bool, true, false, not, if◌then◌else◌, List, [], ◌∷◌, refl, sym, ap, ◌∙◌, arith}
use Rattle.std.proofs.lemmas.Bool.{eqb-true, eq-eqb, true≢false, and_parts, and_from}
use Rattle.node_table.specs.declared.node.Node.{Node}
use Rattle.node_table.specs.Table.{Bits, Table, AreNodes, number_of_next, value_of, value_at, IsValid}
use Rattle.node_table.proofs.Nodes.{value-zero, value-one, Holds, node-held}
use Rattle.node_table.proofs.Canonical.{changed, value-changed}
use Rattle.bdd_ops.proofs.Hiding.{changed-at}
use Rattle.bdd_ops.specs.Meaning.{StandsFor}
use Rattle.part_relation.specs.Plans.{all_hold}
use Rattle.subset_build.specs.Subsets.{HaveCommon}

-- a value depends on the bits at the levels of the space alone
pub value-within : (levels : ℕ) (nodes : List Node) → AreNodes levels nodes → (r : ℕ) (u v : Bits) → ((k : ℕ) → k < levels → u k ≡ v k) → value_of nodes r u ≡ value_of nodes r v
value-within levels [] are r u v same = refl
value-within levels (n ∷ older) are r u v same =
    λ i. if r == number_of_next older then (if same n.level are.0.level_exists i then value-within levels older are.1 n.hi u v same i else value-within levels older are.1 n.lo u v same i) else value-within levels older are.1 r u v same i

pub hold-within : (t : Table) → AreNodes t.levels t.nodes → (parts : List ℕ) (u v : Bits) → ((k : ℕ) → k < t.levels → u k ≡ v k) → all_hold t parts u ≡ all_hold t parts v
hold-within t are [] u v same = refl
hold-within t are (part ∷ parts) u v same = λ i. value-within t.levels t.nodes are part u v same i && hold-within t are parts u v same i

module _ (levels : ℕ) (nodes : List Node) (are : AreNodes levels nodes) where
  by-end : (r : ℕ) → r < number_of_next nodes → (h : Holds levels nodes r) → ((h.node.lo ≡ 0 → ⊥) → (bits : Bits) × (value_of nodes h.node.lo bits ≡ true)) → ((h.node.hi ≡ 0 → ⊥) → (bits : Bits) × (value_of nodes h.node.hi bits ≡ true)) → (bits : Bits) × (value_of nodes r bits ≡ true)
  by-end r held h low high = pick (h.node.lo == 0) refl
    where
      take-end : (bit : Bool) (bits : Bits) → value_of nodes (if bit then h.node.hi else h.node.lo) (changed bits h.node.level bit) ≡ true → value_of nodes r (changed bits h.node.level bit) ≡ true
      take-end true bits is = h.value (changed bits h.node.level true) ∙ ap (λ b. if b then value_of nodes h.node.hi (changed bits h.node.level true) else value_of nodes h.node.lo (changed bits h.node.level true)) (changed-at bits h.node.level true) ∙ is
      take-end false bits is = h.value (changed bits h.node.level false) ∙ ap (λ b. if b then value_of nodes h.node.hi (changed bits h.node.level false) else value_of nodes h.node.lo (changed bits h.node.level false)) (changed-at bits h.node.level false) ∙ is

      pick : (b : Bool) → (h.node.lo == 0) ≡ b → (bits : Bits) × (value_of nodes r bits ≡ true)
      pick false is =
          let (bits, one) = low (λ e. true≢false (sym (eq-eqb h.node.lo 0 e) ∙ is)) in
          (changed bits h.node.level false, take-end false bits (value-changed levels nodes are h.node.lo (omega (arith, held, h.lo_older)) h.node.level h.lo_below bits false ∙ one))
      pick true is =
          let (bits, one) = high (λ e. h.ends_differ (eqb-true h.node.lo 0 is ∙ sym e)) in
          (changed bits h.node.level true, take-end true bits (value-changed levels nodes are h.node.hi (omega (arith, held, h.hi_older)) h.node.level h.hi_below bits true ∙ one))

  -- some bits are in a set that isn't empty
  some-in : (fuel r : ℕ) → r < fuel → r < number_of_next nodes → (r ≡ 0 → ⊥) → (bits : Bits) × (value_of nodes r bits ≡ true)
  some-in zero r less held some = absurd (omega (arith, less))
  some-in (suc fuel) zero less held some = absurd (some refl)
  some-in (suc fuel) (suc zero) less held some = ((λ k. false), value-one nodes (λ k. false))
  some-in (suc fuel) (suc (suc r)) less held some =
      let h : Holds levels nodes (suc (suc r)) = node-held levels nodes are (suc (suc r)) (omega arith) held in
      by-end (suc (suc r)) held h
      (λ more. some-in fuel h.node.lo (omega (arith, less, h.lo_older)) (omega (arith, held, h.lo_older)) more)
      (λ more. some-in fuel h.node.hi (omega (arith, less, h.hi_older)) (omega (arith, held, h.hi_older)) more)

pub some-one : (t : Table) (r : ℕ) → IsValid t r → (r ≡ 0 → ⊥) → (bits : Bits) × (value_at t r bits ≡ true)
some-one t r valid some = some-in t.levels t.nodes valid.table.nodes (suc r) r (omega arith) valid.held some

-- two sets have bits in common where their conjunction isn't 0
pub common : (a b : Table) (f g both : ℕ) (answer : Bool) → StandsFor b both (λ bits. value_at a f bits && value_at a g bits) → answer ≡ not (both == 0) → HaveCommon a f g answer
common a b f g both answer stands is = record {
  found = λ yes.
      let some = some-one b both stands.valid (λ e. true≢false (sym yes ∙ is ∙ ap not (eq-eqb both 0 e))) in
      let (one, two) = and_parts (value_at a f some.0) (value_at a g some.0) (sym (stands.value some.0) ∙ some.1) in
      (some.0, one, two);
  has = λ q one two. is ∙ ap not (pick (both == 0) refl q (stands.value q ∙ and_from (value_at a f q) (value_at a g q) one two));
}
  where
    pick : (e : Bool) → (both == 0) ≡ e → (q : Bits) → value_at b both q ≡ true → (both == 0) ≡ false
    pick false e q one = e
    pick true e q one = absurd (true≢false (sym one ∙ ap (λ r. value_at b r q) (eqb-true both 0 e) ∙ value-zero b.nodes q))
