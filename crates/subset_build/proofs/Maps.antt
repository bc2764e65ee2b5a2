-- The map that leaves letters where they are and takes next states to present ones.
use Rattle.std.proofs.Common.{◌≡◌, ◌==◌, ◌<◌, ◌++◌, ◌||◌, ℕ, Bool, true, false, if◌then◌else◌, List, [], ◌∷◌, get_or, refl, sym, ap, ◌∙◌, arith}
use Rattle.std.specs.List.{All}
use Rattle.std.specs.List.Sorted.{IsStrictlyIncreasing}
use Rattle.std.proofs.lemmas.Bool.{eqb-true, eq-eqb, true≢false, false≢true}
use Rattle.std.proofs.lemmas.List.{get_or-map, length-map, get_or_default}
use Rattle.std.proofs.Math.Bool.{or_assoc}
use Rattle.std.proofs.lemmas.List.Elements.{All-append, All-map}
use Rattle.std.proofs.lemmas.List.Kept.{AllPairs-from_increasing}
use Rattle.node_table.specs.Table.{Bits}
use Rattle.bdd_ops.specs.Levels.{is_in, sources, renamed, IsRisingMap, TargetsWithin}
use Rattle.bdd_ops.proofs.Members.{at-place}
use Rattle.bdd_walk.proofs.Lists.{AllPairs-append, AllPairs-map}
use Rattle.subset_build.specs.Relations.{AreInOrder, present_of}
use Rattle.subset_build.specs.Preparing.{at_itself}

pub renamed-itself : (keep : List ℕ) (state : List (ℕ × ℕ)) (v : Bits) (k : ℕ) → is_in keep k ≡ true → renamed (at_itself keep ++ state) v k ≡ v k
renamed-itself [] state v k member = absurd (false≢true member)
renamed-itself (x ∷ keep) state v k member = pick (k == x) refl (renamed-itself keep state v k)
  where
    pick : (b : Bool) → (k == x) ≡ b → (is_in keep k ≡ true → renamed (at_itself keep ++ state) v k ≡ v k) → (if k == x then v x else renamed (at_itself keep ++ state) v k) ≡ v k
    pick true at later = ap (λ b. if b then v x else renamed (at_itself keep ++ state) v k) at ∙ ap v (sym (eqb-true k x at))
    pick false at later =
        ap (λ b. if b then v x else renamed (at_itself keep ++ state) v k) at
        ∙ later (rest (x == k) refl member)
      where
        rest : (b : Bool) → (x == k) ≡ b → ((x == k) || is_in keep k) ≡ true → is_in keep k ≡ true
        rest true same member = absurd (true≢false (sym (eq-eqb k x (sym (eqb-true x k same))) ∙ at))
        rest false same member = sym (ap (λ b. b || is_in keep k) same) ∙ member

pub renamed-behind : (keep : List ℕ) (state : List (ℕ × ℕ)) (v : Bits) (k : ℕ) → is_in keep k ≡ false → renamed (at_itself keep ++ state) v k ≡ renamed state v k
renamed-behind [] state v k out = refl
renamed-behind (x ∷ keep) state v k out = pick (k == x) refl (x == k) refl out (renamed-behind keep state v k)
  where
    pick : (b : Bool) → (k == x) ≡ b → (c : Bool) → (x == k) ≡ c → ((x == k) || is_in keep k) ≡ false → (is_in keep k ≡ false → renamed (at_itself keep ++ state) v k ≡ renamed state v k) → (if k == x then v x else renamed (at_itself keep ++ state) v k) ≡ renamed state v k
    pick true at c same out later = absurd (true≢false (sym (ap (λ b. b || is_in keep k) (eq-eqb x k (sym (eqb-true k x at)))) ∙ out))
    pick false at true same out later = absurd (true≢false (sym (ap (λ b. b || is_in keep k) same) ∙ out))
    pick false at false same out later = ap (λ b. if b then v x else renamed (at_itself keep ++ state) v k) at ∙ later (sym (ap (λ b. b || is_in keep k) same) ∙ out)

pub sources-whole : (keep : List ℕ) (state : List (ℕ × ℕ)) (k : ℕ) → is_in (sources (at_itself keep ++ state)) k ≡ (is_in keep k || is_in (sources state) k)
sources-whole [] state k = refl
sources-whole (x ∷ keep) state k = ap (λ b. (x == k) || b) (sources-whole keep state k) ∙ sym (or_assoc (x == k) (is_in keep k) (is_in (sources state) k))

module _ (levels : ℕ) (keep : List ℕ) (state : List (ℕ × ℕ)) (order : AreInOrder levels keep state) where
  abbrev Rises : ℕ × ℕ → ℕ × ℕ → Type 0
  Rises p q = (p.0 < q.0) × (p.1 < q.1)

  pub whole-rises : IsStrictlyIncreasing keep → IsRisingMap (at_itself keep ++ state)
  whole-rises rising =
      AllPairs-append Rises (at_itself keep) state
      (AllPairs-map Rises (λ k. (k, k)) keep (λ i j d less within. let rise = AllPairs-from_increasing keep rising i j d less within in (rise, rise)))
      order.rises
      (All-map (λ p. All (Rises p) state) (λ k. (k, k)) keep
      (λ i d within j e inside.
      let letter = at-place keep i (get_or keep i d) within (get_or_default keep i 0 d within) in
      let next = at-place (sources state) j (get_or state j e).0 (omega (arith, inside, length-map state (λ (p : ℕ × ℕ). p.0))) (get_or-map (λ (p : ℕ × ℕ). p.0) state j e 0 inside) in
      let now = at-place (present_of state) j (get_or state j e).1 (omega (arith, inside, length-map state (λ (p : ℕ × ℕ). p.1))) (get_or-map (λ (p : ℕ × ℕ). p.1) state j e 0 inside) in
      (order.above_next (get_or keep i d) (get_or state j e).0 letter next, order.above_present (get_or keep i d) (get_or state j e).1 letter now)))

  pub whole-within : TargetsWithin levels (at_itself keep ++ state)
  whole-within = All-append (λ p. p.1 < levels) (at_itself keep) state (All-map (λ p. p.1 < levels) (λ k. (k, k)) keep order.keep_within) (λ k d within. (order.state_within k d within).1)
