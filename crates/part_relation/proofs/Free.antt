-- Refs whose value doesn't depend on the bits at some levels.
use Rattle.std.proofs.Common.{◌≡◌, ◌==◌, ◌<◌, ◌||◌, ℕ, Bool, true, false, if◌then◌else◌, List, [], ◌∷◌, length, get_or, slice_index, All, refl, sym, ◌∙◌, arith}
use Rattle.std.proofs.lemmas.Bool.{true≢false}
use Rattle.std.proofs.lemmas.List.Elements.{All-head, All-tail}
use Rattle.node_table.specs.Table.{Bits, Table, number_of_next, value_at, Grows}
use Rattle.node_table.proofs.Growth.{valid-grows}
use Rattle.bdd_ops.specs.Levels.{is_in, SameOutside}
use Rattle.part_relation.specs.Plans.{Plan, AreValid, IsFree, IsLast, Fits, IsArrangement, part_at}

module _ (t : Table) (r : ℕ) where
  -- a ref that is free of each of these levels depends on none of their bits
  pub free-all : (levels : List ℕ) → All (IsFree t r) levels → (u v : Bits) → SameOutside levels u v → value_at t r u ≡ value_at t r v
  free-all [] free u v same = λ i. value_at t r (λ k. same k refl i)
  free-all (l ∷ levels) free u v same =
      All-head (IsFree t r) l levels free u between (λ k. first (l == k) k)
      ∙ free-all levels (All-tail (IsFree t r) l levels free) between v (λ k out. rest (l == k) k out (same k))
    where
      between : Bits
      between = λ k. if l == k then v k else u k

      first : (b : Bool) (k : ℕ) → (b || false) ≡ false → u k ≡ (if b then v k else u k)
      first true k out = absurd (true≢false out)
      first false k out = refl

      rest : (b : Bool) (k : ℕ) → is_in levels k ≡ false → ((b || is_in levels k) ≡ false → u k ≡ v k) → (if b then v k else u k) ≡ v k
      rest true k out outside = refl
      rest false k out outside = outside out

module _ (before after : Table) (grow : Grows before after) where
  pub free-grows : (r level : ℕ) → r < number_of_next before.nodes → IsFree before r level → IsFree after r level
  free-grows r level held free u v same = grow.value r held u ∙ free u v same ∙ sym (grow.value r held v)

  pub free-back : (r level : ℕ) → r < number_of_next before.nodes → IsFree after r level → IsFree before r level
  free-back r level held free u v same = sym (grow.value r held u) ∙ free u v same ∙ grow.value r held v

  module _ (parts : List ℕ) (plan : Plan) (valid : AreValid before parts) where
    -- the part in a place is held
    part-held : IsArrangement (length parts) plan.order → (place : ℕ) → place < length plan.order → part_at parts plan place < number_of_next before.nodes
    part-held order place within = (valid (slice_index plan.order place) 0 (order.below place 0 within)).held

    last-grows : IsArrangement (length parts) plan.order → (place level : ℕ) → place < length plan.order → IsLast before parts plan place level → IsLast after parts plan place level
    last-grows order place level within last = record {
      here = λ free. last.here (free-back (part_at parts plan place) level (part-held order place within) free);
      later = λ next more low. free-grows (part_at parts plan next) level (part-held order next low) (last.later next more low);
    }

    pub fits-grow : Fits before parts plan → Fits after parts plan
    fits-grow fits = record {
      order = fits.order;
      places = fits.places;
      exist = λ k d within. let low = fits.exist k d within in omega (arith, low, grow.levels);
      first = λ k d within j e at. free-grows _ _ (valid j e at).held (fits.first k d within j e at);
      last = λ place within k d at. last-grows fits.order place _ (omega (arith, within, fits.places)) (fits.last place within k d at);
    }

-- valid parts stay valid
pub parts-grow : (before after : Table) → Grows before after → (parts : List ℕ) → AreValid before parts → AreValid after parts
parts-grow before after grow parts valid k d within = valid-grows before after grow (get_or parts k d) (valid k d within)
