-- Where an answer on the way to the values of all spots was wanted and not made.
use Rattle.std.proofs.Common.{◌≡◌, ◌∷◌, ◌&&◌, ◌-◌, ◌<◌, ◌≤◌, ◌∙◌, ℕ, suc, Bool, List, [], length, get_or, drop, sym, ap, subst, inl, inr, arith}
use Rattle.std.proofs.Math.Seq.{drop-cons}
use Rattle.std.proofs.lemmas.List.{get_or_default}
use Rattle.node_table.specs.Table.{Bits, Table}
use Rattle.bdd_ops.specs.Meaning.{IsMissing}
use Rattle.bdd_ops.proofs.Missing.{missing-same}
use Rattle.mv_encoding.specs.Layouts.{Layout, numbers_of, is_letter}
use Rattle.mv_encoding.specs.Spots.{spot_at, spell_values, AreValuesShort}

-- the spot before this place
module _ (t : Table) (spots : List Layout) (place : ℕ) (spot : Layout) (is : spot ≡ get_or spots (place - 1) spot) (some : 0 < place) (within : place ≤ length spots) where
  before : place - 1 < length spots
  before = omega (arith, some, within)

  spot-is : spot_at spots (place - 1) ≡ spot
  spot-is = get_or_default spots (place - 1) (record { scope = []; first = 0 }) spot before ∙ sym is

  from-spot : drop (place - 1) spots ≡ spot ∷ drop place spots
  from-spot =
      let next : suc (place - 1) ≡ place = omega (arith, some) in
      drop-cons spots (place - 1) spot before ∙ (λ i. sym is i ∷ drop (next i) spots)

  pub one-short : IsMissing t (λ bits. is_letter spot.scope (numbers_of spot bits)) → AreValuesShort t spots
  one-short missing = record {
    place = place - 1;
    within = before;
    missing = inl (subst (λ (s : Layout). IsMissing t (λ bits. is_letter s.scope (numbers_of s bits))) (sym spot-is) missing);
  }

  pub rest-short : (meaning : Bits → Bool) → ((bits : Bits) → meaning bits ≡ (is_letter spot.scope (numbers_of spot bits) && spell_values (drop place spots) bits)) → IsMissing t meaning → AreValuesShort t spots
  rest-short meaning same missing = record {
    place = place - 1;
    within = before;
    missing = inr (missing-same t meaning (spell_values (drop (place - 1) spots)) (λ bits. same bits ∙ sym (ap (λ rest. spell_values rest bits) from-spot)) missing);
  }
