-- What is held stays right.
use Rattle.std.proofs.Common.{◌∙◌, ℕ, Result, Ok, Err, List, ◌≡◌, ◌⊎◌, sym, subst, inl, inr}
use Rattle.std.specs.Prelude.{OnOk}
use Rattle.node_table.specs.declared.space.MkFault.{MkFault}
use Rattle.node_table.specs.Table.{Table, Grows}
use Rattle.bdd_ops.specs.Meaning.{StandsFor}
use Rattle.node_table.proofs.Growth.{valid-grows}
use Rattle.mv_encoding.specs.Layouts.{Layout}
use Rattle.table_parts.specs.declared.equalities.Equalities.{Equalities}
use Rattle.table_parts.specs.declared.equalities.Pair.{Pair}
use Rattle.table_parts.specs.Held.{IsHeld, AreRight, spell_same}

pub right-later : (signals : List Layout) (old new : Table) (held : Equalities) → Grows old new → AreRight signals old held → AreRight signals new held
right-later signals old new held grow right = record {
  stands = λ pair r is. let before = right.stands pair r is in record {
    valid = valid-grows old new grow r before.valid;
    value = λ bits. grow.value r before.valid.held bits ∙ before.value bits;
  };
}

pub right-then : (result : Result ℕ MkFault) (signals : List Layout) (old new : Table) (held : Equalities) → Grows old new → AreRight signals old held → OnOk result (AreRight signals new held)
right-then (Ok r) signals old new held grow right = right-later signals old new held grow right
right-then (Err e) signals old new held grow right = tt

-- one more that is right may be held
pub right-held : (signals : List Layout) (t : Table) (old new : Equalities) (pair : Pair) (r : ℕ) → ((other : Pair) (s : ℕ) → IsHeld new other s → ((other ≡ pair) × (s ≡ r)) ⊎ IsHeld old other s) → AreRight signals t old → StandsFor t r (spell_same signals pair) → AreRight signals t new
right-held signals t old new pair r held right stands = record { stands = λ other s is. by other s (held other s is) }
  where
    by : (other : Pair) (s : ℕ) → ((other ≡ pair) × (s ≡ r)) ⊎ IsHeld old other s → StandsFor t s (spell_same signals other)
    by other s (inl same) =
        let P : Pair → Type 0 = λ p. StandsFor t s (spell_same signals p) in
        let Q : ℕ → Type 0 = λ q. StandsFor t q (spell_same signals pair) in
        subst P (sym same.0) (subst Q (sym same.1) stands)
    by other s (inr before) = right.stands other s before
