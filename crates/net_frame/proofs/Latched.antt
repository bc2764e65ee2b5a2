-- The latches of a sound network have different outputs, which have names.
use Rattle.std.proofs.Common.{◌≡◌, ◌+◌, ◌<◌, ◌≤◌, ◌∙◌, ℕ, Bool, true, false, cond, nat_eq, count_by, List, [], ◌∷◌, ◌++◌, map, length, get_or, take, refl, sym, ap, subst, arith, zero-add}
use Rattle.std.specs.Prelude.{All}
use Rattle.std.specs.List.{AllByRecursion, list_any, flat_map, IsDistinct}
use Rattle.std.proofs.lemmas.Bool.{eq-eqb}
use Rattle.std.proofs.lemmas.List.{length-map, get_or-map, take_more, map_push}
use Rattle.std.proofs.lemmas.List.Folds.{list_any_at}
use Rattle.std.proofs.lemmas.List.Elements.{All-get_or, All-weaker, All-map, All-head, All-tail}
use Rattle.std.proofs.lemmas.List.Sums.{sum_by-append}
use Rattle.name_table.proofs.Chosen.{length_chosen}
use Rattle.net_model.specs.Nets.{Net, Latch, latch_of}
use Rattle.net_model.specs.declared.net.Latch as declared_latch
use Rattle.net_model.specs.Conditions.{drives, latch_outputs}
use Rattle.net_model.specs.SoundNets.{AreKnown}
use Rattle.net_model.specs.Outlines.{IsWired}
use Rattle.net_model.proofs.Letters.{counted_first}

module _ (net : Net) (sound : IsWired net) where
  latches-known : All (λ latch. latch.output < length net.names) net.latches
  latches-known =
      All-weaker (λ (latch : Latch). AreKnown net (latch.input ∷ latch.output ∷ [])) (λ (latch : Latch). latch.output < length net.names)
      (λ latch known. All-head (λ signal. signal < length net.names) latch.output [] (All-tail (λ signal. signal < length net.names) latch.input (latch.output ∷ []) known))
      net.latches sound.known.latches

  pub outputs-known : All (λ signal. signal < length net.names) (latch_outputs net)
  outputs-known = All-map (λ signal. signal < length net.names) (λ (latch : Latch). latch.output) net.latches latches-known

  pub outputs-once : (k : ℕ) → count_by (nat_eq k) (latch_outputs net) ≤ 1
  outputs-once k =
      let driven : count_by (nat_eq k) (drives net) ≤ 1 = sound.once k in
      let counted = sum_by-append (λ y. cond (nat_eq k y) 1 0) net.inputs (flat_map (λ table. table.outs) net.tables ++ latch_outputs net) in
      let behind = sum_by-append (λ y. cond (nat_eq k y) 1 0) (flat_map (λ table. table.outs) net.tables) (latch_outputs net) in
      omega (arith, driven, counted, behind)

-- a number that is counted once doesn't stand again
pub none-again : (k : ℕ) (xs : List ℕ) → count_by (nat_eq k) xs ≡ 0 → AllByRecursion (λ x. nat_eq k x ≡ false) xs
none-again k [] none = tt
none-again k (x ∷ xs) none =
    elim (nat_eq k x) as (λ b. nat_eq k x ≡ b → (b ≡ false) × AllByRecursion (λ y. nat_eq k y ≡ false) xs) [
      | true ↦ λ is. let one = counted_first k x xs true is in absurd (omega (arith, one, none))
      | false ↦ λ is. (refl, none-again k xs (sym (counted_first k x xs false is ∙ zero-add _) ∙ none))
    ] refl

pub once-distinct : (xs : List ℕ) → ((k : ℕ) → count_by (nat_eq k) xs ≤ 1) → IsDistinct nat_eq xs
unfolding IsDistinct
once-distinct [] once = tt
once-distinct (x ∷ xs) once =
    let first = counted_first x x xs true (eq-eqb x x refl) in
    let here : count_by (nat_eq x) (x ∷ xs) ≤ 1 = once x in
    (none-again x xs (omega (arith, first, here)), once-distinct xs (λ k. later k (nat_eq k x) refl))
  where
    later : (k : ℕ) (b : Bool) → nat_eq k x ≡ b → count_by (nat_eq k) xs ≤ 1
    later k b is = let all = counted_first k x xs b is in let few : count_by (nat_eq k) (x ∷ xs) ≤ 1 = once k in omega (arith, all, few)

module _ (net : Net) (sound : IsWired net) where
  pub outputs-few : length (latch_outputs net) ≤ 4096
  outputs-few =
      let few = length_chosen net.names net.latches (λ latch. latch.output) (latches-known net sound) (once-distinct (latch_outputs net) (outputs-once net sound)) in
      let size = length-map net.latches (λ (latch : Latch). latch.output) in
      omega (arith, few, size, sound.known.names.few)

  -- the output at a place
  pub output-at : (outputs : List ℕ) → outputs ≡ latch_outputs net → (i output : ℕ) → i < length outputs → get_or outputs i 0 ≡ output → (output < length net.names) × (list_any (nat_eq output) (latch_outputs net) ≡ true)
  output-at outputs are i output within is =
      let known : All (λ signal. signal < length net.names) outputs = subst (λ (ks : List ℕ). All (λ signal. signal < length net.names) ks) (sym are) (outputs-known net sound) in
      let here = All-get_or (λ signal. signal < length net.names) outputs i 0 within known in
      let among = list_any_at (nat_eq output) outputs i 0 within (eq-eqb output (get_or outputs i 0) (sym is)) in
      (subst (λ k. k < length net.names) is here, ap (list_any (nat_eq output)) (sym are) ∙ among)

-- the output of a latch as it is kept

pub latch-at : (net : Net) → IsWired net → (items : List declared_latch.Latch) → map (λ latch. latch.output) (map latch_of items) ≡ latch_outputs net → (i : ℕ) (d : declared_latch.Latch) → i < length items → ((get_or items i d).output.0 < length net.names) × (list_any (nat_eq (get_or items i d).output.0) (latch_outputs net) ≡ true)
latch-at net sound items are i d within =
    let inner = length-map items latch_of in
    let size = length-map (map latch_of items) (λ (latch : Latch). latch.output) in
    let mapped = get_or-map latch_of items i d (latch_of d) within in
    let at = get_or-map (λ (latch : Latch). latch.output) (map latch_of items) i (latch_of d) 0 (omega (arith, within, inner)) ∙ ap (λ (latch : Latch). latch.output) mapped in
    output-at net sound (map (λ latch. latch.output) (map latch_of items)) are i (get_or items i d).output.0 (omega (arith, within, inner, size)) at

pub latches-more : {X : Type 0} (spot : ℕ → X) (items all : List declared_latch.Latch) → items ≡ all → (had now : List X) (x : X) (i : ℕ) (d : declared_latch.Latch) → i < length items → had ≡ map spot (map (λ latch. latch.output) (map latch_of (take i all))) → x ≡ spot (get_or items i d).output.0 → now ≡ had ++ x ∷ [] → now ≡ map spot (map (λ latch. latch.output) (map latch_of (take (i + 1) all)))
latches-more spot items all are had now x i d within so_far is more =
    more ∙ (λ j. so_far j ++ is j ∷ [])
    ∙ ap (λ ys. map spot (map (λ latch. latch.output) (map latch_of (take i ys))) ++ spot (get_or items i d).output.0 ∷ []) (sym are)
    ∙ sym (ap (λ ys. map spot (map (λ latch. latch.output) (map latch_of ys))) (take_more items i d within)
    ∙ ap (λ ys. map spot (map (λ latch. latch.output) ys)) (map_push latch_of (take i items) (get_or items i d))
    ∙ ap (map spot) (map_push (λ (latch : Latch). latch.output) (map latch_of (take i items)) (latch_of (get_or items i d)))
    ∙ map_push spot (map (λ latch. latch.output) (map latch_of (take i items))) (get_or items i d).output.0)
    ∙ ap (λ ys. map spot (map (λ latch. latch.output) (map latch_of (take (i + 1) ys)))) are
