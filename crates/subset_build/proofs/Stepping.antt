-- What one image under a plan is, once it is renamed.
use Rattle.std.proofs.Common.{◌≡◌, ◌<◌, ◌++◌, ◌||◌, ◌&&◌, ℕ, Bool, true, false, List, length, refl, sym, ap, ◌∙◌, arith}
use Rattle.std.proofs.lemmas.List.{get_or-map, length-map}
use Rattle.node_table.specs.Table.{Bits, Table, value_at}
use Rattle.bdd_ops.specs.Levels.{is_in, sources, renamed}
use Rattle.bdd_ops.specs.Meaning.{StandsFor, StandsForHidden, DependsOn}
use Rattle.bdd_ops.proofs.Members.{place}
use Rattle.part_relation.specs.Plans.{named_by, all_hold}
use Rattle.subset_build.specs.declared.prepared.Prepared.{Prepared}
use Rattle.subset_build.specs.Relations.{Relation, present_of, Reads, AreInOrder}
use Rattle.subset_build.specs.Subsets.{IsImage}
use Rattle.subset_build.specs.Preparing.{IsStepOf, at_itself}
use Rattle.subset_build.proofs.Values.{hold-within}
use Rattle.subset_build.proofs.Steps.{image-found, image-has, image-depends}

module _ (levels : ℕ) (keep : List ℕ) (state : List (ℕ × ℕ)) (order : AreInOrder levels keep state) where
  pub keep-low : (k : ℕ) → is_in keep k ≡ true → k < levels
  keep-low k member = let (i, within, at) = place keep k member in let low = order.keep_within i 0 within in omega (arith, low, at)

  pub next-low : (k : ℕ) → is_in (sources state) k ≡ true → k < levels
  next-low k member =
      let (i, within, at) = place (sources state) k member in
      let inside : i < length state = omega (arith, within, length-map state (λ (p : ℕ × ℕ). p.0)) in
      let low = (order.state_within i (0, 0) inside).0 in
      let here = get_or-map (λ (p : ℕ × ℕ). p.0) state i (0, 0) 0 inside in
      omega (arith, low, at, here)

  pub present-low : (k : ℕ) → is_in (present_of state) k ≡ true → k < levels
  present-low k member =
      let (i, within, at) = place (present_of state) k member in
      let inside : i < length state = omega (arith, within, length-map state (λ (p : ℕ × ℕ). p.1)) in
      let low = (order.state_within i (0, 0) inside).1 in
      let here = get_or-map (λ (p : ℕ × ℕ). p.1) state i (0, 0) 0 inside in
      omega (arith, low, at, here)

module _ (a b : Table) (parts : List ℕ) (p : Prepared) (rel : Relation) (set image : ℕ) (ready : IsStepOf a parts p rel) (is_set : Reads a (present_of rel.state) set)
    (hidden : StandsForHidden b image (named_by p.plan) (λ bits. value_at a set bits && all_hold a parts bits)) where
  pub plan-depends : DependsOn b (sources (at_itself rel.keep ++ rel.state)) image
  plan-depends u v same =
      image-depends a.levels rel ready.order (named_by p.plan) ready.prepared.hides (keep-low a.levels rel.keep rel.state ready.order) (next-low a.levels rel.keep rel.state ready.order) (present-low a.levels rel.keep rel.state ready.order)
      (value_at a set) (all_hold a parts) (value_at b image) is_set.depends (λ u v same. hold-within a is_set.valid.table.nodes parts u v same) ready.holds hidden.found hidden.holds u v same

  pub plan-image : (e : Table) (f : ℕ) → StandsFor e f (λ bits. value_at b image (renamed p.map bits)) → IsImage e rel (value_at a set) f
  plan-image e f stands =
      let reads : (v : Bits) → value_at e f v ≡ value_at b image (renamed (at_itself rel.keep ++ rel.state) v) = λ v. stands.value v ∙ ap (λ map. value_at b image (renamed map v)) ready.prepared.map_is in
      record {
        found = λ v is.
            image-found a.levels rel ready.order (named_by p.plan) ready.prepared.hides (keep-low a.levels rel.keep rel.state ready.order) (next-low a.levels rel.keep rel.state ready.order) (present-low a.levels rel.keep rel.state ready.order)
            (value_at a set) (all_hold a parts) (value_at b image) is_set.depends (λ u v same. hold-within a is_set.valid.table.nodes parts u v same) ready.holds hidden.found hidden.holds v (sym (reads v) ∙ is);
        has = λ q v one step.
            reads v
            ∙ image-has a.levels rel ready.order (named_by p.plan) ready.prepared.hides (keep-low a.levels rel.keep rel.state ready.order) (next-low a.levels rel.keep rel.state ready.order) (present-low a.levels rel.keep rel.state ready.order)
            (value_at a set) (all_hold a parts) (value_at b image) is_set.depends (λ u v same. hold-within a is_set.valid.table.nodes parts u v same) ready.holds hidden.found hidden.holds q v one step;
      }

pub kept-low : (levels : ℕ) (keep : List ℕ) (state : List (ℕ × ℕ)) → AreInOrder levels keep state → (k : ℕ) → (is_in keep k || is_in (sources state) k) ≡ true → k < levels
kept-low levels keep state order k member = pick (is_in keep k) refl
  where
    pick : (b : Bool) → is_in keep k ≡ b → k < levels
    pick true is = keep-low levels keep state order k is
    pick false is = next-low levels keep state order k (sym (ap (λ b. b || is_in (sources state) k) is) ∙ member)
