-- From bits at which the parts of a relation hold to a step.
use Rattle.std.proofs.Common.{◌≡◌, ◌∙◌, ◌&&◌, ◌<◌, ℕ, zero, suc, Bool, true, false, List, [], ◌∷◌, ◌++◌, length, map, refl, sym, ap, arith}
use Rattle.std.specs.Prelude.{All, slice_index}
use Rattle.std.specs.List.{list_all}
use Rattle.std.proofs.lemmas.Bool.{and_parts, and_from, eqb-true}
use Rattle.std.proofs.lemmas.List.Folds.{list_all-append}
use Rattle.std.proofs.lemmas.List.{map-append}
use Rattle.net_model.specs.Nets.{Table, Latch}
use Rattle.net_model.specs.Tables.{values_at, table_allows, table_holds}
use Rattle.net_model.specs.Conditions.{columns_of}
use Rattle.node_table.specs.Table.{Bits}
use Rattle.mv_encoding.specs.Layouts.{Layout, number_of}
use Rattle.mv_encoding.specs.Spots.{AreSpots, spot_at, spots_at, spelled, spell_values}
use Rattle.table_parts.specs.TableParts.{part_value}
use Rattle.net_relation.specs.Relations.{spells_value, are_alike, has_value_of, latch_value, latch_values, present_values, all_mean}
use Rattle.net_relation.proofs.Spelled.{head, tail, valued, valued-number, columns-valued}

-- all meanings of two lists
pub all-append : (ms ns : List (Bits → Bool)) (bits : Bits) → all_mean (ms ++ ns) bits ≡ (all_mean ms bits && all_mean ns bits)
all-append [] ns bits = refl
all-append (m ∷ ms) ns bits = ap (λ b. m bits && b) (all-append ms ns bits) ∙ both (m bits) (all_mean ms bits) (all_mean ns bits)
  where
    both : (a b c : Bool) → (a && (b && c)) ≡ ((a && b) && c)
    both true b c = refl
    both false b c = refl

append-left : (xs ys : List ℕ) (n : ℕ) → All (λ x. x < n) (xs ++ ys) → All (λ x. x < n) xs
append-left [] ys n all k d within = absurd (omega (arith, within))
append-left (x ∷ xs) ys n all zero d within = head (λ x. x < n) x (xs ++ ys) all
append-left (x ∷ xs) ys n all (suc k) d within = append-left xs ys n (tail (λ x. x < n) x (xs ++ ys) all) k d (omega (arith, within))

append-right : (xs ys : List ℕ) (n : ℕ) → All (λ x. x < n) (xs ++ ys) → All (λ x. x < n) ys
append-right [] ys n all = all
append-right (x ∷ xs) ys n all = append-right xs ys n (tail (λ x. x < n) x (xs ++ ys) all)

module _ (spots : List Layout) (are : AreSpots spots) (bits : Bits) where
  -- a table that holds at the bits holds at the valuation
  pub table-found : (table : Table) → All (λ s. s < length spots) (columns_of table) → part_value spots table bits ≡ true → table_holds (valued spots bits) table ≡ true
  table-found table known is =
      let parts = and_parts (spell_values (spots_at spots (columns_of table)) bits) (table_holds (spelled spots bits) table) is in
      let split = sym (ap (λ l. spell_values l bits) (map-append (spot_at spots) table.ins table.outs) ∙ list_all-append (λ spot. spells_value spot bits) (spots_at spots table.ins) (spots_at spots table.outs)) ∙ parts.0 in
      let values = and_parts (spell_values (spots_at spots table.ins) bits) (spell_values (spots_at spots table.outs) bits) split in
      let ins = columns-valued spots are bits table.ins (append-left table.ins table.outs (length spots) known) values.0 in
      let outs = columns-valued spots are bits table.outs (append-right table.ins table.outs (length spots) known) values.1 in
      (λ i. table_allows table (ins i) (outs i)) ∙ parts.1

  pub tables-found : (tables : List Table) → All (λ table. All (λ s. s < length spots) (columns_of table)) tables → all_mean (map (part_value spots) tables) bits ≡ true → list_all (table_holds (valued spots bits)) tables ≡ true
  tables-found [] known is = refl
  tables-found (table ∷ tables) known is =
      let parts = and_parts (part_value spots table bits) (all_mean (map (part_value spots) tables) bits) is in
      and_from (table_holds (valued spots bits) table) (list_all (table_holds (valued spots bits)) tables)
      (table-found table (head (λ t. All (λ s. s < length spots) (columns_of t)) table tables known) parts.0)
      (tables-found tables (tail (λ t. All (λ s. s < length spots) (columns_of t)) table tables known) parts.1)

  -- a spot that spells the value of a signal spells what the valuation has
  pub value-found : (spot : Layout) (signal : ℕ) → signal < length spots → has_value_of spots spot signal bits ≡ true → slice_index (valued spots bits) signal ≡ number_of spot 0 bits
  value-found spot signal known is =
      let parts = and_parts (spells_value (spot_at spots signal) bits) (are_alike spot (spot_at spots signal) bits) is in
      valued-number spots are bits signal known parts.0 ∙ sym (eqb-true (number_of spot 0 bits) (number_of (spot_at spots signal) 0 bits) parts.1)

  pub present-found : (latches : List Latch) (present : List Layout) → length present ≡ length latches → All (λ latch. latch.output < length spots) latches
      → all_mean (present_values spots latches present) bits ≡ true → values_at (valued spots bits) (map (λ latch. latch.output) latches) ≡ spelled present bits
  present-found [] [] same known is = refl
  present-found [] (p ∷ present) same known is = absurd (omega (arith, same))
  present-found (latch ∷ latches) [] same known is = absurd (omega (arith, same))
  present-found (latch ∷ latches) (p ∷ present) same known is =
      let parts = and_parts (has_value_of spots p latch.output bits) (all_mean (present_values spots latches present) bits) is in
      let here = value-found p latch.output (head (λ l. l.output < length spots) latch latches known) parts.0 in
      let rest = present-found latches present (omega (arith, same)) (tail (λ l. l.output < length spots) latch latches known) parts.1 in
      λ i. here i ∷ rest i

  pub latches-found : (latches : List Latch) (present next : List Layout) → length present ≡ length latches → length next ≡ length latches
      → All (λ latch. (latch.input < length spots) × (latch.output < length spots)) latches
      → all_mean (latch_values spots latches present next) bits ≡ true
      → (values_at (valued spots bits) (map (λ latch. latch.output) latches) ≡ spelled present bits) × (values_at (valued spots bits) (map (λ latch. latch.input) latches) ≡ spelled next bits)
  latches-found [] [] [] same also known is = (refl, refl)
  latches-found [] [] (n ∷ next) same also known is = absurd (omega (arith, also))
  latches-found [] (p ∷ present) next same also known is = absurd (omega (arith, same))
  latches-found (latch ∷ latches) [] next same also known is = absurd (omega (arith, same))
  latches-found (latch ∷ latches) (p ∷ present) [] same also known is = absurd (omega (arith, also))
  latches-found (latch ∷ latches) (p ∷ present) (n ∷ next) same also known is =
      let parts = and_parts (latch_value spots latch p n bits) (all_mean (latch_values spots latches present next) bits) is in
      let both = and_parts (has_value_of spots p latch.output bits) (has_value_of spots n latch.input bits) parts.0 in
      let within = head (λ l. (l.input < length spots) × (l.output < length spots)) latch latches known in
      let now = value-found p latch.output within.1 both.0 in
      let then = value-found n latch.input within.0 both.1 in
      let rest = latches-found latches present next (omega (arith, same)) (omega (arith, also)) (tail (λ l. (l.input < length spots) × (l.output < length spots)) latch latches known) parts.1 in
      ((λ i. now i ∷ rest.0 i), (λ i. then i ∷ rest.1 i))
