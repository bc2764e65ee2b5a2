-- From a valuation to bits at which the parts of a relation hold.
use Rattle.std.proofs.Common.{◌≡◌, ◌⊎◌, inl, inr, ◌∙◌, ◌||◌, ◌==◌, ◌<◌, ℕ, Bool, true, false, List, [], ◌∷◌, length, map, get_or, refl, sym, ap, subst}
use Rattle.std.specs.Prelude.{All, slice_index}
use Rattle.std.specs.List.{list_all, AllZip}
use Rattle.std.proofs.lemmas.Bool.{and_parts, and_from, false≢true, eq-eqb}
use Rattle.std.proofs.lemmas.List.{length-map}
use Rattle.std.proofs.lemmas.List.Folds.{list_any-append}
use Rattle.name_table.specs.ScopeVars.{variable_at}
use Rattle.net_model.specs.Words.{Scope, IsLetter}
use Rattle.net_model.specs.Nets.{Table, Latch, Net}
use Rattle.net_model.specs.Tables.{values_at, table_holds}
use Rattle.net_model.specs.Conditions.{columns_of, latch_outputs}
use Rattle.node_table.specs.Table.{Bits, Table as Nodes}
use Rattle.bdd_ops.specs.Levels.{is_in, SameAt, SameOutside}
use Rattle.mv_encoding.specs.Layouts.{Layout, number_of, levels_of}
use Rattle.mv_encoding.specs.Spots.{AreSpots, AreApart, variables_at, all_levels, spot_at, spots_at, spelled, spell_values}
use Rattle.mv_encoding.proofs.Apart.{written, values-test, spot-back}
use Rattle.table_parts.specs.TableParts.{part_value}
use Rattle.net_frame.specs.Placing.{FileSpots, IsPresentOf, IsPlaced}
use Rattle.net_relation.specs.Relations.{spells_value, are_alike, has_value_of, latch_value, latch_values, present_values, all_mean}
use Rattle.net_relation.proofs.Spelled.{nowhere, head, tail, spots-of, number-at, value-among, values-among}

-- The bits spell this valuation, and are as these bits at all other levels and at those of the state.
pub record IsWritten (spots : FileSpots) (v : List ℕ) (bits u : Bits) : Type 0 where
  pub signals : spelled spots.signals u ≡ v
  pub outside : SameOutside (all_levels spots.signals) u bits
  pub present : SameAt (all_levels spots.present) u bits
  pub next : SameAt (all_levels spots.next) u bits

either : (a b : Bool) → (a || b) ≡ true → (a ≡ true) ⊎ (b ≡ true)
either true b is = inl refl
either false b is = inr is

-- a level of a spot that is apart from others is none of theirs
pub apart-out : (spot : Layout) (spots : List Layout) → All (AreApart spot) spots → (k : ℕ) → is_in (levels_of spot) k ≡ true → is_in (all_levels spots) k ≡ false
apart-out spot [] apart k is = refl
apart-out spot (other ∷ spots) apart k is =
    rw (list_any-append (λ l. l == k) (levels_of other) (all_levels spots)) (rw (head (AreApart spot) other spots apart k is) (apart-out spot spots (tail (AreApart spot) other spots apart) k is))

-- what is said of each spot holds at the levels of all
pub each-level : (P : ℕ → Type 0) (spots : List Layout) → All (λ spot. (k : ℕ) → is_in (levels_of spot) k ≡ true → P k) spots → (k : ℕ) → is_in (all_levels spots) k ≡ true → P k
each-level P [] all k is = absurd (false≢true is)
each-level P (spot ∷ spots) all k is =
    elim (either (is_in (levels_of spot) k) (is_in (all_levels spots) k) (sym (list_any-append (λ l. l == k) (levels_of spot) (all_levels spots)) ∙ is)) [
      | inl here ↦ head (λ s. (j : ℕ) → is_in (levels_of s) j ≡ true → P j) spot spots all k here
      | inr there ↦ each-level P spots (tail (λ s. (j : ℕ) → is_in (levels_of s) j ≡ true → P j) spot spots all) k there
    ]

-- the present values stay as they are, where the valuation has them at the latch outputs
present-kept : (signals present : List Layout) (outputs : List ℕ) → AreSpots signals → All (λ s. s < length signals) outputs → AllZip (IsPresentOf signals) present outputs
    → (u bits : Bits) → SameOutside (all_levels signals) u bits → values_at (spelled signals u) outputs ≡ spelled present bits
    → SameAt (all_levels present) u bits
present-kept signals [] [] are known zip u bits outside state k is = absurd (false≢true is)
present-kept signals [] (o ∷ outputs) are known zip u bits outside state k is = absurd zip
present-kept signals (p ∷ present) [] are known zip u bits outside state k is = absurd zip
present-kept signals (p ∷ present) (o ∷ outputs) are known zip u bits outside state k is =
    let parts = both-parts (slice_index (spelled signals u) o) (number_of p 0 bits) (values_at (spelled signals u) outputs) (spelled present bits) state in
    elim (either (is_in (levels_of p) k) (is_in (all_levels present) k) (sym (list_any-append (λ l. l == k) (levels_of p) (all_levels present)) ∙ is)) [
      | inl here ↦ at-spot parts.0 zip.0 here
      | inr there ↦ present-kept signals present outputs are (tail (λ s. s < length signals) o outputs known) zip.1 u bits outside parts.1 k there
    ]
  where
    both-parts : (m n : ℕ) (xs ys : List ℕ) → m ∷ xs ≡ n ∷ ys → (m ≡ n) × (xs ≡ ys)
    both-parts m n xs ys e = (cc, cc)

    at-spot : slice_index (spelled signals u) o ≡ number_of p 0 bits → IsPresentOf signals p o → is_in (levels_of p) k ≡ true → u k ≡ bits k
    at-spot value (inl same) here =
        let within = head (λ s. s < length signals) o outputs known in
        let spot = spot_at signals o in
        let P : Layout → Type 0 = λ q. number_of q 0 bits ≡ number_of spot 0 u in
        let now : number_of spot 0 bits ≡ number_of spot 0 u = subst P same (sym value ∙ number-at signals u o within) in
        let Q : Layout → Type 0 = λ q. is_in (levels_of q) k ≡ true in
        spot-back spot (are o nowhere within) u bits (sym now) k (subst Q same here)
    at-spot value (inr apart) here = outside k (apart-out p signals apart k here)

-- values for all signals are written, and the state stays
pub write : (t : Nodes) (net : Net) (spots : FileSpots) → IsPlaced t net spots → All (λ s. s < length net.names) (latch_outputs net) → (v : List ℕ) → IsLetter net.names v
    → (bits : Bits) → values_at v (latch_outputs net) ≡ spelled spots.present bits → (u : Bits) × IsWritten spots v bits u
write t net spots placed known v is bits state =
    let of = spots-of spots.signals net.names placed.signals in
    let many = ap length of.1 in
    let P : ℕ → Type 0 = λ n. All (λ s. s < n) (latch_outputs net) in
    let within = subst P (sym many ∙ length-map spots.signals (λ spot. variable_at spot.scope 0)) known in
    let Q : Scope → Type 0 = λ scope. IsLetter scope v in
    let code = written spots.signals of.0 placed.signals_apart v (subst Q (sym of.1) is) bits in (
      code.0,
      record {
        signals = code.1;
        outside = code.2;
        present = present-kept spots.signals spots.present (latch_outputs net) of.0 within placed.outputs code.0 bits code.2 ((λ i. values_at (code.1 i) (latch_outputs net)) ∙ state);
        next = each-level (λ k. code.0 k ≡ bits k) spots.next (λ i d inside k at. code.2 k (apart-out (get_or spots.next i d) spots.signals (placed.next_apart i d inside) k at));
      },
    )

module _ (signals : List Layout) (are : AreSpots signals) (v : List ℕ) (u : Bits) (spells : spelled signals u ≡ v) (letter : IsLetter (variables_at signals) v) where
  all-values : spell_values signals u ≡ true
  all-values = let P : List ℕ → Type 0 = λ w. IsLetter (variables_at signals) w in (values-test signals are u).1 (subst P (sym spells) letter)

  -- a table that holds at the valuation holds at the bits
  pub table-holds : (table : Table) → All (λ s. s < length signals) (columns_of table) → table_holds v table ≡ true → part_value signals table u ≡ true
  table-holds table known holds =
      and_from (spell_values (spots_at signals (columns_of table)) u) (table_holds (spelled signals u) table)
      (values-among signals u all-values (columns_of table) known) ((λ i. table_holds (spells i) table) ∙ holds)

  pub tables-hold : (tables : List Table) → All (λ table. All (λ s. s < length signals) (columns_of table)) tables → list_all (table_holds v) tables ≡ true → all_mean (map (part_value signals) tables) u ≡ true
  tables-hold [] known holds = refl
  tables-hold (table ∷ tables) known holds =
      let parts = and_parts (table_holds v table) (list_all (table_holds v) tables) holds in
      and_from (part_value signals table u) (all_mean (map (part_value signals) tables) u)
      (table-holds table (head (λ t. All (λ s. s < length signals) (columns_of t)) table tables known) parts.0)
      (tables-hold tables (tail (λ t. All (λ s. s < length signals) (columns_of t)) table tables known) parts.1)

  pub value-holds : (spot : Layout) (signal : ℕ) → signal < length signals → slice_index v signal ≡ number_of spot 0 u → has_value_of signals spot signal u ≡ true
  value-holds spot signal known is =
      let at = sym is ∙ sym (λ i. slice_index (spells i) signal) ∙ number-at signals u signal known in
      and_from (spells_value (spot_at signals signal) u) (are_alike spot (spot_at signals signal) u)
      (value-among signals u all-values signal known) (eq-eqb (number_of spot 0 u) (number_of (spot_at signals signal) 0 u) at)

  both-parts : (m n : ℕ) (xs ys : List ℕ) → m ∷ xs ≡ n ∷ ys → (m ≡ n) × (xs ≡ ys)
  both-parts m n xs ys e = (cc, cc)

  pub present-hold : (latches : List Latch) (present : List Layout) → All (λ latch. latch.output < length signals) latches
      → values_at v (map (λ latch. latch.output) latches) ≡ spelled present u → all_mean (present_values signals latches present) u ≡ true
  present-hold [] present known state = refl
  present-hold (latch ∷ latches) [] known state = refl
  present-hold (latch ∷ latches) (p ∷ present) known state =
      let parts = both-parts (slice_index v latch.output) (number_of p 0 u) (values_at v (map (λ l. l.output) latches)) (spelled present u) state in
      and_from (has_value_of signals p latch.output u) (all_mean (present_values signals latches present) u)
      (value-holds p latch.output (head (λ l. l.output < length signals) latch latches known) parts.0)
      (present-hold latches present (tail (λ l. l.output < length signals) latch latches known) parts.1)

  pub latches-hold : (latches : List Latch) (present next : List Layout) → All (λ latch. (latch.input < length signals) × (latch.output < length signals)) latches
      → values_at v (map (λ latch. latch.output) latches) ≡ spelled present u → values_at v (map (λ latch. latch.input) latches) ≡ spelled next u
      → all_mean (latch_values signals latches present next) u ≡ true
  latches-hold [] present next known state step = refl
  latches-hold (latch ∷ latches) [] next known state step = refl
  latches-hold (latch ∷ latches) (p ∷ present) [] known state step = refl
  latches-hold (latch ∷ latches) (p ∷ present) (n ∷ next) known state step =
      let now = both-parts (slice_index v latch.output) (number_of p 0 u) (values_at v (map (λ l. l.output) latches)) (spelled present u) state in
      let then = both-parts (slice_index v latch.input) (number_of n 0 u) (values_at v (map (λ l. l.input) latches)) (spelled next u) step in
      let within = head (λ l. (l.input < length signals) × (l.output < length signals)) latch latches known in
      and_from (latch_value signals latch p n u) (all_mean (latch_values signals latches present next) u)
      (and_from (has_value_of signals p latch.output u) (has_value_of signals n latch.input u) (value-holds p latch.output within.1 now.0) (value-holds n latch.input within.0 then.0))
      (latches-hold latches present next (tail (λ l. (l.input < length signals) × (l.output < length signals)) latch latches known) now.1 then.1)
