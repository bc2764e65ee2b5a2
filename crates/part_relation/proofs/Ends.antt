-- A node depends on its level, and on what its ends depend on: else it had two ends of one value.
use Rattle.std.proofs.Common.{◌≡◌, ◌==◌, ◌<◌, ◌≤◌, ◌⊎◌, ◌||◌, ℕ, Bool, true, false, if◌then◌else◌, List, [], ◌∷◌, length, set, get_or-set_same, get_or-set_other, Some, refl, sym, ap, ◌∙◌, subst, inl, inr, arith}
use Rattle.std.specs.Option.{option_map}
use Rattle.std.proofs.lemmas.Bool.{eqb-true, eq-eqb, true≢false, cases_eq}
use Rattle.node_table.specs.declared.node.Node.{Node}
use Rattle.node_table.specs.Table.{Bits, Table, level_of, lo_of, hi_of, IsValid}
use Rattle.node_table.proofs.Nodes.{Holds, node-held}
use Rattle.node_table.proofs.Canonical.{changed, value-lo, value-hi, canonical}
use Rattle.bdd_ops.specs.Levels.{SameOutside}
use Rattle.part_relation.specs.Plans.{IsFree, Depends}
use Rattle.part_relation.specs.Supports.{is_marked, AreMarked}

changed-both : (level : ℕ) (u v : Bits) → SameOutside (level ∷ []) u v → (at : ℕ) (b : Bool) → SameOutside (level ∷ []) (changed u at b) (changed v at b)
changed-both level u v same at b k out = λ i. if k == at then b else same k out i

changed-apart : (level : ℕ) (bits : Bits) → SameOutside (level ∷ []) (changed bits level false) (changed bits level true)
changed-apart level bits k out = by (k == level) refl
  where
    by : (b : Bool) → (k == level) ≡ b → (if b then false else bits k) ≡ (if b then true else bits k)
    by true at = absurd (true≢false (sym (ap (λ b. b || false) (eq-eqb level k (sym (eqb-true k level at)))) ∙ out))
    by false at = refl

module _ (t : Table) (r : ℕ) (valid : IsValid t r) (h : Holds t.levels t.nodes r) where
  lo-free : (level : ℕ) → IsFree t r level → IsFree t h.node.lo level
  lo-free level free u v same =
      value-lo t.levels t.nodes valid.table.nodes r valid.held h u
      ∙ free (changed u h.node.level false) (changed v h.node.level false) (changed-both level u v same h.node.level false)
      ∙ sym (value-lo t.levels t.nodes valid.table.nodes r valid.held h v)

  hi-free : (level : ℕ) → IsFree t r level → IsFree t h.node.hi level
  hi-free level free u v same =
      value-hi t.levels t.nodes valid.table.nodes r valid.held h u
      ∙ free (changed u h.node.level true) (changed v h.node.level true) (changed-both level u v same h.node.level true)
      ∙ sym (value-hi t.levels t.nodes valid.table.nodes r valid.held h v)

  own-level : Depends t r h.node.level
  own-level free =
      h.ends_differ
      (canonical t.levels t.nodes valid.table.nodes h.node.lo h.node.hi (omega (arith, h.lo_older, valid.held)) (omega (arith, h.hi_older, valid.held))
      (λ bits.
      value-lo t.levels t.nodes valid.table.nodes r valid.held h bits
      ∙ free (changed bits h.node.level false) (changed bits h.node.level true) (changed-apart h.node.level bits)
      ∙ sym (value-hi t.levels t.nodes valid.table.nodes r valid.held h bits)))

same-some : (m n : ℕ) → Some m ≡ Some n → m ≡ n
same-some m n e = cc

-- what a node depends on is marked once its own level is and what its ends depend on
pub marked-node : (t : Table) (r level lo hi : ℕ) → IsValid t r → 2 ≤ r → Some level ≡ level_of t r → lo_of t r ≡ Some lo → hi_of t r ≡ Some hi → (old low high : List Bool) → level < length old → AreMarked t lo (set old level true) low → AreMarked t hi low high → AreMarked t r old high
marked-node t r level lo hi valid node at_level at_lo at_hi old low high exists zeroes ones = record {
  kept = λ l is. ones.kept l (zeroes.kept l (kept l (cases_eq l level) is));
  found = λ l is. after l (ones.found l is);
}
  where
    h : Holds t.levels t.nodes r
    h = node-held t.levels t.nodes valid.table.nodes r node valid.held

    level_is : level ≡ h.node.level
    level_is = same-some level h.node.level (at_level ∙ ap (option_map (λ (n : Node). n.level)) h.is)

    lo_is : h.node.lo ≡ lo
    lo_is = same-some h.node.lo lo (sym (ap (option_map (λ (n : Node). n.lo)) h.is) ∙ at_lo)

    hi_is : h.node.hi ≡ hi
    hi_is = same-some h.node.hi hi (sym (ap (option_map (λ (n : Node). n.hi)) h.is) ∙ at_hi)

    kept : (l : ℕ) → (l ≡ level) ⊎ (l ≡ level → ⊥) → is_marked old l ≡ true → is_marked (set old level true) l ≡ true
    kept l (inl same) is = ap (is_marked (set old level true)) same ∙ get_or-set_same old level true false exists
    kept l (inr other) is = get_or-set_other old level l true false other ∙ is

    from_set : (l : ℕ) → (l ≡ level) ⊎ (l ≡ level → ⊥) → is_marked (set old level true) l ≡ true → (is_marked old l ≡ true) ⊎ Depends t r l
    from_set l (inl same) is = let P : ℕ → Type 0 = λ k. Depends t r k in inr (subst P (sym (same ∙ level_is)) (own-level t r valid h))
    from_set l (inr other) is = inl (sym (get_or-set_other old level l true false other) ∙ is)

    before : (l : ℕ) → (is_marked (set old level true) l ≡ true) ⊎ Depends t lo l → (is_marked old l ≡ true) ⊎ Depends t r l
    before l (inl is) = from_set l (cases_eq l level) is
    before l (inr depends) = inr (λ free. let P : ℕ → Type 0 = λ k. IsFree t k l in depends (subst P lo_is (lo-free t r valid h l free)))

    after : (l : ℕ) → (is_marked low l ≡ true) ⊎ Depends t hi l → (is_marked old l ≡ true) ⊎ Depends t r l
    after l (inl is) = before l (zeroes.found l is)
    after l (inr depends) = inr (λ free. let P : ℕ → Type 0 = λ k. IsFree t k l in depends (subst P hi_is (hi-free t r valid h l free)))
