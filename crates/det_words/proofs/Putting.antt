-- The targets of moves are put one by one.
use Rattle.std.proofs.Common.{◌≡◌, ◌+◌, ◌<◌, ℕ, List, length, get_or, sym, ap, ◌∙◌, inl, inr, arith}
use Rattle.std.proofs.lemmas.Bool.{cases_lt}
use Rattle.std.proofs.lemmas.List.{get_or_default}
use Rattle.det_core.specs.declared.det.Move.{Move}
use Rattle.subset_build.specs.Tables.{Extends, IsPlaced}
use Rattle.subset_build.proofs.Pieces.{extends-more}
use Rattle.det_words.specs.Reaching.{IsAmong, ArePut}

pub among-later : (a b : List ℕ) (state : ℕ) → Extends a b → IsAmong a state → IsAmong b state
among-later a b state ext (k, less, is) = (k, omega (arith, less, ext.longer), ext.same k less ∙ is)

pub put-next : (old a b : List ℕ) (moves : List Move) (count place : ℕ) (m : Move) → count < length moves → m ≡ get_or moves count m → ArePut old a moves count → IsPlaced a b m.target place → ArePut old b moves (count + 1)
put-next old a b moves count place m inside at before placed = record {
  extends = extends-more old a b before.extends placed.extends;
  all = λ j n less. elim (cases_lt j count) [
    | inl earlier ↦ among-later a b (get_or moves j n).target placed.extends (before.all j n earlier)
    | inr later ↦
        let this : j ≡ count = omega (arith, less, later) in
        let own : get_or moves j n ≡ m = ap (λ i. get_or moves i n) this ∙ get_or_default moves count n m inside ∙ sym at in
        (place, placed.within, placed.is_set ∙ sym (ap (λ (x : Move). x.target) own))
  ];
  came = λ k late less. elim (cases_lt k (length a)) [
    | inl earlier ↦
        let (j, n, low, here, leads) = before.came k late earlier in
        (j, n, omega (arith, low), here, leads ∙ sym (placed.extends.same k earlier))
    | inr new ↦ (count, m, omega arith, sym at, sym (placed.only k new less))
  ];
}
