-- Sets of states of a network.
use Rattle.std.proofs.Common.{◌≡◌, inl, inr, ◌∙◌, ◌&&◌, ◌||◌, ◌==◌, ◌+◌, ◌-◌, ◌<◌, ◌≤◌, ℕ, zero, suc, Bool, true, false, not, cond, List, [], ◌∷◌, ◌++◌, length, map, take, get_or, nat_eq, count_by, refl, sym, ap, arith, subst}
use Rattle.std.specs.Prelude.{All, Contains, slice_index}
use Rattle.std.specs.List.{list_any, flat_map}
use Rattle.std.proofs.lemmas.Bool.{and_parts, and_from, false≢true, eq-eqb, eqb-true}
use Rattle.std.proofs.lemmas.Grind.{get_or_default_zero}
use Rattle.std.proofs.lemmas.List.{take_more, map-append, append_assoc}
use Rattle.std.proofs.lemmas.List.Elements.{All-cons, filter-append}
use Rattle.std.proofs.lemmas.List.Folds.{list_any-append}
use Rattle.std.proofs.lemmas.List.Sums.{sum_by-append}
use Rattle.name_table.specs.CodeBits.{bits_in}
use Rattle.name_table.specs.ScopeVars.{variable_at, chosen_of}
use Rattle.net_model.specs.Words.{Scope, IsLetter}
use Rattle.net_model.specs.Nets.{Table, Net, table_of}
use Rattle.net_model.specs.declared.net.Table as declared
use Rattle.net_model.specs.Tables.{values_at, table_holds}
use Rattle.net_model.specs.Conditions.{latch_outputs, columns_of, Varies, IsConstant, IsAutomaton}
use Rattle.net_model.specs.NetLanguages.{states_of, HoldsIfConstant, IsInitial, AcceptsBy, IsAccepting}
use Rattle.net_model.specs.SoundNets.{IsSound}
use Rattle.net_model.proofs.Letters.{counted_first}
use Rattle.net_conditions.specs.Marks.{is_marked, IsSetOf as AreMarks}
use Rattle.node_table.specs.Table.{Bits, Table as Nodes, value_at}
use Rattle.bdd_ops.specs.Meaning.{StandsFor}
use Rattle.bdd_ops.specs.Levels.{is_in, SameAt, SameOutside, IsSetOf}
use Rattle.bdd_ops.proofs.Members.{same-tests, at-place}
use Rattle.mv_encoding.specs.Layouts.{Layout, levels_of, IsLaid, number_of}
use Rattle.mv_encoding.specs.Spots.{AreSpots, AreLaid, variables_at, all_levels, spot_at, spots_at, spelled, spell_values, StandsForValues}
use Rattle.mv_encoding.proofs.Apart.{spelled-same, values-test}
use Rattle.mv_encoding.proofs.Ranges.{range-in}
use Rattle.table_parts.specs.TableParts.{part_value}
use Rattle.net_frame.specs.Placing.{FileSpots, IsPlaced}
use Rattle.net_relation.specs.Projections.{Projects}
use Rattle.part_relation.specs.Plans.{all_hold}
use Rattle.net_relation.specs.Relations.{spells_value, present_values, all_mean, AreFor}
use Rattle.net_relation.specs.States.{constant_tables, initial_meanings, accepting_meanings}
use Rattle.net_relation.proofs.Spelled.{head, tail, number-at, valued, valued-number, spots-of}
use Rattle.net_relation.proofs.Found.{all-append, table-found, tables-found, present-found}
use Rattle.net_relation.proofs.Written.{write, table-holds, tables-hold, present-hold}
use Rattle.net_relation.proofs.Added.{are-all}
use Rattle.net_relation.proofs.PlacedNet as placed-net
use Rattle.net_relation.proofs.Related.{either, valuation, tables-known}

-- a level of codes that are there is there
level-laid : (t : Nodes) (spots : List Layout) → AreLaid t spots → (k : ℕ) → is_in (all_levels spots) k ≡ true → k < t.levels
level-laid t [] laid k is = absurd (false≢true is)
level-laid t (spot ∷ spots) laid k is =
    elim (either (is_in (levels_of spot) k) (is_in (all_levels spots) k) (sym (list_any-append (λ l. l == k) (levels_of spot) (all_levels spots)) ∙ is)) [
      | inl here ↦
          let at = range-in (bits_in spot.scope) spot.first k here in
          let low = head (λ s. IsLaid s t) spot spots laid (k - spot.first) (omega (arith, at.0, at.1)) in
          omega (arith, low, at.0)
      | inr there ↦ level-laid t spots (tail (λ s. IsLaid s t) spot spots laid) k there
    ]

-- what is left of parts at the levels of present values is the set of these states
pub states-are : (t s : Nodes) (net : Net) (spots : FileSpots) → IsSound net → IsPlaced t net spots → s.levels ≡ t.levels
    → (keep : List ℕ) → IsSetOf (all_levels spots.present) keep → (r : ℕ) (meaning : Bits → Bool) (Member : List ℕ → Type 0) → Projects s r keep meaning
    → ((u : Bits) → meaning u ≡ true → IsLetter (variables_at spots.present) (spelled spots.present u) × Member (spelled spots.present u))
    → ((bits : Bits) → Member (spelled spots.present bits) → (u : Bits) × SameOutside (all_levels spots.signals) u bits × SameAt (all_levels spots.present) u bits × (meaning u ≡ true))
    → StandsForValues s spots.present r Member
states-are t s net spots sound placed levels keep kept r meaning Member left finds has = record {
  valid = left.valid;
  depends = λ u v same.
      let now = spelled-same spots.present are u v same in
      let back = spelled-same spots.present are v u (λ k is. sym (same k is)) in
      same-tests (value_at s r u) (value_at s r v) (moved u v now) (moved v u back);
  found = found;
  holds = λ bits letter. holds bits;
}
  where
    are : AreSpots spots.present
    are = placed-net.present-are t net spots sound placed

    found : (bits : Bits) → value_at s r bits ≡ true → IsLetter (variables_at spots.present) (spelled spots.present bits) × Member (spelled spots.present bits)
    found bits is =
        let some = left.found bits is in
        let same = spelled-same spots.present are some.0 bits (λ k is. some.1 k (kept.same k ∙ is)) in
        let P : List ℕ → Type 0 = λ q. IsLetter (variables_at spots.present) q × Member q in
        subst P same (finds some.0 some.2)

    out : (k : ℕ) → s.levels ≤ k → is_in (all_levels spots.signals) k ≡ false
    out k high = elim (is_in (all_levels spots.signals) k) as (λ b. is_in (all_levels spots.signals) k ≡ b → b ≡ false) [
      | true ↦ λ is. let low = level-laid t spots.signals placed.signals_laid k is in absurd (omega (arith, low, high, levels))
      | false ↦ λ is. refl
    ] refl

    holds : (bits : Bits) → Member (spelled spots.present bits) → value_at s r bits ≡ true
    holds bits member =
        let some = has bits member in
        left.holds bits some.0
        (λ k beyond. elim (is_in keep k) as (λ b. is_in keep k ≡ b → some.0 k ≡ bits k) [
          | true ↦ λ is. some.2 k (sym (kept.same k) ∙ is)
          | false ↦ λ is. some.1 k (out k (beyond is))
        ] refl) some.3

    moved : (u v : Bits) → spelled spots.present u ≡ spelled spots.present v → value_at s r u ≡ true → value_at s r v ≡ true
    moved u v same is = holds v (subst Member same (found u is).1)

-- the same, where the parts are for these meanings
pub parts-states : (t made s : Nodes) (net : Net) (spots : FileSpots) → IsSound net → IsPlaced t net spots → s.levels ≡ t.levels
    → (keep : List ℕ) → IsSetOf (all_levels spots.present) keep → (r : ℕ) (parts : List ℕ) (ms : List (Bits → Bool)) → AreFor made parts ms → (Member : List ℕ → Type 0)
    → ((u : Bits) → all_mean ms u ≡ true → IsLetter (variables_at spots.present) (spelled spots.present u) × Member (spelled spots.present u))
    → ((bits : Bits) → Member (spelled spots.present bits) → (u : Bits) × SameOutside (all_levels spots.signals) u bits × SameAt (all_levels spots.present) u bits × (all_mean ms u ≡ true))
    → Projects s r keep (all_hold made parts) → StandsForValues s spots.present r Member
parts-states t made s net spots sound placed levels keep kept r parts ms are Member finds has left =
    states-are t s net spots sound placed levels keep kept r (all_hold made parts) Member left
    (λ u is. finds u (sym (are-all made parts ms are u) ∙ is))
    (λ bits member. let some = has bits member in (some.0, some.1, some.2, are-all made parts ms are some.0 ∙ some.3))

-- the levels that are kept are there
pub kept-within : (t : Nodes) (spots : List Layout) → AreLaid t spots → (keep : List ℕ) → IsSetOf (all_levels spots) keep → (levels : ℕ) → levels ≡ t.levels → All (λ level. level < levels) keep
kept-within t spots laid keep kept levels same k d within =
    let member = at-place keep k (get_or keep k d) within (sym (get_or_default_zero keep k d within)) in
    let low = level-laid t spots laid (get_or keep k d) (sym (kept.same (get_or keep k d)) ∙ member) in
    omega (arith, low, same)

-- the values of chosen signals are values of their variables
values-letter : (names : Scope) (v : List ℕ) → IsLetter names v → (k : ℕ) → k < length names → slice_index v k < length (variable_at names k).values
values-letter [] v is k known = absurd (omega (arith, known))
values-letter (x ∷ names) [] is k known = absurd is
values-letter (x ∷ names) (a ∷ v) is zero known = is.0
values-letter (x ∷ names) (a ∷ v) is (suc k) known = values-letter names v is.1 k (omega (arith, known))

chosen-letter : (names : Scope) (v : List ℕ) → IsLetter names v → (signals : List ℕ) → All (λ s. s < length names) signals → IsLetter (chosen_of names signals) (values_at v signals)
chosen-letter names v is [] known = tt
chosen-letter names v is (s ∷ signals) known =
    (values-letter names v is s (head (λ x. x < length names) s signals known), chosen-letter names v is signals (tail (λ x. x < length names) s signals known))

unmarked : (net : Net) (varying : List Bool) → AreMarks varying (Varies net) → (signals : List ℕ) → All (IsConstant net) signals → list_any (is_marked varying) signals ≡ false
unmarked net varying marks [] constant = refl
unmarked net varying marks (s ∷ signals) constant =
    elim (is_marked varying s) as (λ b. is_marked varying s ≡ b → (b || list_any (is_marked varying) signals) ≡ false) [
      | true ↦ λ is. absurd (head (IsConstant net) s signals constant ((marks s).0 is))
      | false ↦ λ is. unmarked net varying marks signals (tail (IsConstant net) s signals constant)
    ] refl

constant : (net : Net) (varying : List Bool) → AreMarks varying (Varies net) → (signals : List ℕ) → list_any (is_marked varying) signals ≡ false → All (IsConstant net) signals
constant net varying marks [] none k d within = absurd (omega (arith, within))
constant net varying marks (s ∷ signals) none k d within =
    All-cons (IsConstant net) s signals
    (λ varies. false≢true (sym none ∙ ap (λ b. b || list_any (is_marked varying) signals) ((marks s).1 varies)))
    (constant net varying marks signals (rest (is_marked varying s) (list_any (is_marked varying) signals) none)) k d within
  where
    rest : (a b : Bool) → (a || b) ≡ false → b ≡ false
    rest true b is = absurd (false≢true (sym is))
    rest false b is = is

-- one more of the constant tables
pub constant-more : (f : Table → Bits → Bool) (varying : List Bool) (xs : List declared.Table) (k : ℕ) (x : declared.Table) (before : List (Bits → Bool)) → k < length xs → get_or xs k x ≡ x
    → (before ++ map f (constant_tables varying (map table_of (take k xs)))) ++ map f (constant_tables varying (table_of x ∷ [])) ≡ before ++ map f (constant_tables varying (map table_of (take (k + 1) xs)))
constant-more f varying xs k x before within is =
    let longer = take_more xs k x within ∙ ap (λ y. take k xs ++ y ∷ []) is in
    let mapped = ap (map table_of) longer ∙ map-append table_of (take k xs) (x ∷ []) in
    let kept = ap (constant_tables varying) mapped ∙ filter-append (λ table. not (list_any (is_marked varying) table.outs)) (map table_of (take k xs)) (table_of x ∷ []) in
    append_assoc before (map f (constant_tables varying (map table_of (take k xs)))) (map f (constant_tables varying (table_of x ∷ [])))
    ∙ ap (λ l. before ++ l) (sym (ap (map f) kept ∙ map-append f (constant_tables varying (map table_of (take k xs))) (constant_tables varying (table_of x ∷ []))))

module _ (net : Net) (varying : List Bool) (marks : AreMarks varying (Varies net)) where
  constants-found : (signals : List Layout) (are : AreSpots signals) (u : Bits) (tables : List Table) → All (λ table. All (λ s. s < length signals) (columns_of table)) tables
      → all_mean (map (part_value signals) (constant_tables varying tables)) u ≡ true → All (HoldsIfConstant net (valued signals u)) tables
  constants-found signals are u [] known is k d within = absurd (omega (arith, within))
  constants-found signals are u (table ∷ tables) known is k d within =
      elim (list_any (is_marked varying) table.outs) as
      (λ b. list_any (is_marked varying) table.outs ≡ b → all_mean (map (part_value signals) (cond (not b) (table ∷ constant_tables varying tables) (constant_tables varying tables))) u ≡ true → All (HoldsIfConstant net (valued signals u)) (table ∷ tables)) [
        | true ↦ λ some more.
            All-cons (HoldsIfConstant net (valued signals u)) table tables
            (λ all. absurd (false≢true (sym (unmarked net varying marks table.outs all) ∙ some)))
            (constants-found signals are u tables (tail (λ t. All (λ s. s < length signals) (columns_of t)) table tables known) more)
        | false ↦ λ none more.
            let parts = and_parts (part_value signals table u) (all_mean (map (part_value signals) (constant_tables varying tables)) u) more in
            All-cons (HoldsIfConstant net (valued signals u)) table tables
            (λ all. table-found signals are u table (head (λ t. All (λ s. s < length signals) (columns_of t)) table tables known) parts.0)
            (constants-found signals are u tables (tail (λ t. All (λ s. s < length signals) (columns_of t)) table tables known) parts.1)
      ] refl is k d within

  constants-hold : (signals : List Layout) (are : AreSpots signals) (v : List ℕ) (u : Bits) → spelled signals u ≡ v → IsLetter (variables_at signals) v → (tables : List Table)
      → All (λ table. All (λ s. s < length signals) (columns_of table)) tables → All (HoldsIfConstant net v) tables → all_mean (map (part_value signals) (constant_tables varying tables)) u ≡ true
  constants-hold signals are v u spells letter [] known hold = refl
  constants-hold signals are v u spells letter (table ∷ tables) known hold =
      let rest = constants-hold signals are v u spells letter tables (tail (λ t. All (λ s. s < length signals) (columns_of t)) table tables known) (tail (HoldsIfConstant net v) table tables hold) in
      elim (list_any (is_marked varying) table.outs) as
      (λ b. list_any (is_marked varying) table.outs ≡ b → all_mean (map (part_value signals) (cond (not b) (table ∷ constant_tables varying tables) (constant_tables varying tables))) u ≡ true) [
        | true ↦ λ some. rest
        | false ↦ λ none.
            and_from (part_value signals table u) (all_mean (map (part_value signals) (constant_tables varying tables)) u)
            (table-holds signals are v u spells letter table (head (λ t. All (λ s. s < length signals) (columns_of t)) table tables known)
            (head (HoldsIfConstant net v) table tables hold (constant net varying marks table.outs none)))
            rest
      ] refl

pub any-mapped : {X Y : Type 0} (p : Y → Bool) (h : X → Y) (xs : List X) → list_any p (map h xs) ≡ list_any (λ x. p (h x)) xs
any-mapped p h [] = refl
any-mapped p h (x ∷ xs) = ap (λ b. p (h x) || b) (any-mapped p h xs)

module _ (t : Nodes) (net : Net) (spots : FileSpots) (sound : IsSound net) (placed : IsPlaced t net spots) where
  are : AreSpots spots.signals
  are = placed-net.signals-are t net spots sound placed

  -- the state that the bits spell, where the valuation has it
  state-letter : (u : Bits) → values_at (valued spots.signals u) (latch_outputs net) ≡ spelled spots.present u → IsLetter (variables_at spots.present) (spelled spots.present u)
  state-letter u state =
      let outputs = placed-net.outputs-named t net spots sound placed in
      let P : List ℕ → Type 0 = λ q. IsLetter (states_of net) q in
      let Q : Scope → Type 0 = λ scope. IsLetter scope (spelled spots.present u) in
      subst Q (sym (spots-of spots.present (states_of net) placed.present).1)
      (subst P state (chosen-letter net.names (valued spots.signals u) (valuation t net spots sound placed u) (latch_outputs net) outputs))

  module _ (varying : List Bool) (marks : AreMarks varying (Varies net)) where
    resets-known : All (λ table. All (λ s. s < length spots.signals) (columns_of table)) net.resets
    resets-known = λ k d within. placed-net.known-spots t net spots sound placed (columns_of (get_or net.resets k d)) (sound.known.resets k d within)

    pub initial-found : (u : Bits) → all_mean (initial_meanings net spots varying) u ≡ true → IsLetter (variables_at spots.present) (spelled spots.present u) × IsInitial net (spelled spots.present u)
    initial-found u is =
        let constants = map (part_value spots.signals) (constant_tables varying net.tables) in
        let resets = map (part_value spots.signals) net.resets in
        let now = present_values spots.signals net.latches spots.present in
        let parts = and_parts (all_mean (constants ++ resets) u) (all_mean now u) (sym (all-append (constants ++ resets) now u) ∙ is) in
        let halves = and_parts (all_mean constants u) (all_mean resets u) (sym (all-append constants resets u) ∙ parts.0) in
        let state = present-found spots.signals are u net.latches spots.present (placed-net.present-long t net spots sound placed) (placed-net.outputs-known t net spots sound placed) parts.1 in (
          state-letter u state,
          record {
            valuation = valued spots.signals u;
            values = valuation t net spots sound placed u;
            state = state;
            tables = constants-found net varying marks spots.signals are u net.tables (tables-known t net spots sound placed) halves.0;
            resets = tables-found spots.signals are u net.resets resets-known halves.1;
          },
        )

    pub initial-holds : (bits : Bits) → IsInitial net (spelled spots.present bits)
        → (u : Bits) × SameOutside (all_levels spots.signals) u bits × SameAt (all_levels spots.present) u bits × (all_mean (initial_meanings net spots varying) u ≡ true)
    initial-holds bits s =
        let w = write t net spots placed (placed-net.outputs-named t net spots sound placed) s.valuation s.values bits s.state in
        let u = w.0 in
        let P : Scope → Type 0 = λ names. IsLetter names s.valuation in
        let letter = subst P (sym (placed-net.names-are t net spots sound placed)) s.values in
        let state = s.state ∙ sym (spelled-same spots.present (placed-net.present-are t net spots sound placed) u bits w.1.present) in
        let constants = map (part_value spots.signals) (constant_tables varying net.tables) in
        let resets = map (part_value spots.signals) net.resets in
        let now = present_values spots.signals net.latches spots.present in
        let constants-are = constants-hold net varying marks spots.signals are s.valuation u w.1.signals letter net.tables (tables-known t net spots sound placed) s.tables in
        let resets-are = tables-hold spots.signals are s.valuation u w.1.signals letter net.resets resets-known s.resets in
        let now-is = present-hold spots.signals are s.valuation u w.1.signals letter net.latches spots.present (placed-net.outputs-known t net spots sound placed) state in (
          u,
          w.1.outside,
          w.1.present,
          all-append (constants ++ resets) now u
              ∙ and_from (all_mean (constants ++ resets) u) (all_mean now u) (all-append constants resets u ∙ and_from (all_mean constants u) (all_mean resets u) constants-are resets-are) now-is,
        )

-- all lists of values
pub all-values-set : (t : Nodes) (spots : List Layout) → AreSpots spots → (r : ℕ) → StandsFor t r (spell_values spots) → StandsForValues t spots r (λ q. Unit {0})
all-values-set t spots are r stands = record {
  valid = stands.valid;
  depends = λ u v same.
      let now = spelled-same spots are u v same in
      let back = spelled-same spots are v u (λ k is. sym (same k is)) in
      same-tests (value_at t r u) (value_at t r v) (moved u v now) (moved v u back);
  found = λ bits is. ((values-test spots are bits).0 (sym (stands.value bits) ∙ is), tt);
  holds = λ bits letter any. stands.value bits ∙ (values-test spots are bits).1 letter;
}
  where
    moved : (u v : Bits) → spelled spots u ≡ spelled spots v → value_at t r u ≡ true → value_at t r v ≡ true
    moved u v same is =
        let P : List ℕ → Type 0 = λ q. IsLetter (variables_at spots) q in
        stands.value v ∙ (values-test spots are v).1 (subst P same ((values-test spots are u).0 (sym (stands.value u) ∙ is)))

-- the same set told in other words
pub told-as : (t : Nodes) (spots : List Layout) (r : ℕ) (P Q : List ℕ → Type 0) → ((q : List ℕ) → P q → Q q) → ((q : List ℕ) → Q q → P q) → StandsForValues t spots r P → StandsForValues t spots r Q
told-as t spots r P Q to from set = record {
  valid = set.valid;
  depends = set.depends;
  found = λ bits is. let at = set.found bits is in (at.0, to (spelled spots bits) at.1);
  holds = λ bits letter member. set.holds bits letter (from (spelled spots bits) member);
}

-- A signal that is driven once is the only output of one table at most.

tables-after : {X : Type 0} (x : X) (xs : List X) (y : X) → (k : ℕ) → suc k < length (x ∷ xs) → get_or (x ∷ xs) (suc k) y ≡ y → Contains xs y
tables-after x xs y k within is = (k, omega (arith, within), is)

counted-head : (s : ℕ) (rest : List ℕ) → count_by (nat_eq s) (s ∷ rest) ≡ 1 + count_by (nat_eq s) rest
counted-head s rest = counted_first s s rest true (eq-eqb s s refl)

counted-in : (s : ℕ) (tables : List Table) (table : Table) → Contains tables table → table.outs ≡ s ∷ [] → 1 ≤ count_by (nat_eq s) (flat_map (λ t. t.outs) tables)
counted-in s [] table held only = let within = held.1 in absurd (omega (arith, within))
counted-in s (t ∷ tables) table (zero, within, is) only =
    let rest = flat_map (λ u. u.outs) tables in
    let outs : t.outs ≡ s ∷ [] = ap (λ u. u.outs) is ∙ only in
    let count = ap (λ l. count_by (nat_eq s) (l ++ rest)) outs ∙ counted-head s rest in
    omega (arith, count)
counted-in s (t ∷ tables) table (suc k, within, is) only =
    let both = sum_by-append (λ y. cond (nat_eq s y) 1 0) t.outs (flat_map (λ u. u.outs) tables) in
    let more = counted-in s tables table (tables-after t tables table k within is) only in
    omega (arith, both, more)

one-driver : (s : ℕ) (tables : List Table) (a b : Table) → count_by (nat_eq s) (flat_map (λ t. t.outs) tables) ≤ 1 → Contains tables a → Contains tables b → a.outs ≡ s ∷ [] → b.outs ≡ s ∷ [] → a ≡ b
one-driver s [] a b once held-a held-b only-a only-b = let within = held-a.1 in absurd (omega (arith, within))
one-driver s (t ∷ tables) a b once (zero, wa, ia) (zero, wb, ib) only-a only-b = sym ia ∙ ib
one-driver s (t ∷ tables) a b once (zero, wa, ia) (suc j, wb, ib) only-a only-b =
    let rest = flat_map (λ u. u.outs) tables in
    let outs : t.outs ≡ s ∷ [] = ap (λ u. u.outs) ia ∙ only-a in
    let count = ap (λ l. count_by (nat_eq s) (l ++ rest)) outs ∙ counted-head s rest in
    let more = counted-in s tables b (tables-after t tables b j wb ib) only-b in
    absurd (omega (arith, once, count, more))
one-driver s (t ∷ tables) a b once (suc k, wa, ia) (zero, wb, ib) only-a only-b =
    let rest = flat_map (λ u. u.outs) tables in
    let outs : t.outs ≡ s ∷ [] = ap (λ u. u.outs) ib ∙ only-b in
    let count = ap (λ l. count_by (nat_eq s) (l ++ rest)) outs ∙ counted-head s rest in
    let more = counted-in s tables a (tables-after t tables a k wa ia) only-a in
    absurd (omega (arith, once, count, more))
one-driver s (t ∷ tables) a b once (suc k, wa, ia) (suc j, wb, ib) only-a only-b =
    let both = sum_by-append (λ y. cond (nat_eq s y) 1 0) t.outs (flat_map (λ u. u.outs) tables) in
    one-driver s tables a b (omega (arith, once, both)) (tables-after t tables a k wa ia) (tables-after t tables b j wb ib) only-a only-b

module _ (t : Nodes) (net : Net) (spots : FileSpots) (sound : IsSound net) (placed : IsPlaced t net spots)
    (signal : ℕ) (acc : IsAutomaton net signal) (table : Table) (held : Contains net.tables table) (only : table.outs ≡ signal ∷ []) where
  signals-are : AreSpots spots.signals
  signals-are = placed-net.signals-are t net spots sound placed

  table-known : All (λ s. s < length spots.signals) (columns_of table)
  table-known =
      let P : Table → Type 0 = λ u. All (λ s. s < length spots.signals) (columns_of u) in
      subst P held.2 (tables-known t net spots sound placed held.0 table held.1)

  signal-known : signal < length spots.signals
  signal-known =
      let P : List ℕ → Type 0 = λ outs. All (λ s. s < length spots.signals) (table.ins ++ outs) in
      let known = subst P only table-known in
      last (length spots.signals) table.ins known
    where
      last : (n : ℕ) (ins : List ℕ) → All (λ s. s < n) (ins ++ signal ∷ []) → signal < n
      last n [] known = head (λ s. s < n) signal [] known
      last n (i ∷ ins) known = last n ins (tail (λ s. s < n) i (ins ++ signal ∷ []) known)

  -- the only signal of an automaton's outputs
  same-signal : (other : ℕ) → IsAutomaton net other → other ≡ signal
  same-signal other is = let e : other ∷ [] ≡ signal ∷ [] = sym is.0 ∙ acc.0 in ap (λ l. get_or l 0 0) e

  -- the table that drives the signal once
  same-table : (other : Table) → Contains net.tables other → other.outs ≡ signal ∷ [] → other ≡ table
  same-table other there alone =
      let outs = flat_map (λ u. u.outs) net.tables in
      let states = map (λ latch. latch.output) net.latches in
      let once : count_by (nat_eq signal) (net.inputs ++ (outs ++ states)) ≤ 1 = sound.conditions.once signal in
      let first = sum_by-append (λ y. cond (nat_eq signal y) 1 0) net.inputs (outs ++ states) in
      let second = sum_by-append (λ y. cond (nat_eq signal y) 1 0) outs states in
      one-driver signal net.tables other table (omega (arith, once, first, second)) there held alone only

  pub accepting-found : (u : Bits) → all_mean (accepting_meanings net spots table signal) u ≡ true → IsLetter (variables_at spots.present) (spelled spots.present u) × IsAccepting net (spelled spots.present u)
  accepting-found u is =
      let first = part_value spots.signals table in
      let one : Bits → Bool = λ bits. number_of (spot_at spots.signals signal) 0 bits == 1 in
      let now = present_values spots.signals net.latches spots.present in
      let parts = and_parts (all_mean (first ∷ one ∷ []) u) (all_mean now u) (sym (all-append (first ∷ one ∷ []) now u) ∙ is) in
      let both = and_parts (first u) (one u && true) parts.0 in
      let has = and_parts (one u) true both.1 in
      let state = present-found spots.signals signals-are u net.latches spots.present (placed-net.present-long t net spots sound placed) (placed-net.outputs-known t net spots sound placed) parts.1 in
      let values = and_parts (spell_values (spots_at spots.signals (columns_of table)) u) (table_holds (spelled spots.signals u) table) both.0 in
      let V : List ℕ → Type 0 = λ outs. spell_values (spots_at spots.signals (table.ins ++ outs)) u ≡ true in
      let value = last-spells table.ins (subst V only values.0) in (
        state-letter t net spots sound placed u state,
        λ other automaton.
            let P : ℕ → Type 0 = λ s. AcceptsBy net s (spelled spots.present u) in
            subst P (sym (same-signal other automaton)) (record {
              table = table;
              held = held;
              only = only;
              valuation = valued spots.signals u;
              values = valuation t net spots sound placed u;
              state = state;
              accepts = valued-number spots.signals signals-are u signal signal-known value ∙ eqb-true (number_of (spot_at spots.signals signal) 0 u) 1 has.0;
              holds = table-found spots.signals signals-are u table table-known both.0;
            }),
      )
    where
      last-spells : (ins : List ℕ) → spell_values (spots_at spots.signals (ins ++ signal ∷ [])) u ≡ true → spells_value (spot_at spots.signals signal) u ≡ true
      last-spells [] is = (and_parts (spells_value (spot_at spots.signals signal) u) true is).0
      last-spells (i ∷ ins) is = last-spells ins (and_parts (spells_value (spot_at spots.signals i) u) (spell_values (spots_at spots.signals (ins ++ signal ∷ [])) u) is).1

  pub accepting-holds : (bits : Bits) → IsAccepting net (spelled spots.present bits)
      → (u : Bits) × SameOutside (all_levels spots.signals) u bits × SameAt (all_levels spots.present) u bits × (all_mean (accepting_meanings net spots table signal) u ≡ true)
  accepting-holds bits accepting =
      let s = accepting signal acc in
      let w = write t net spots placed (placed-net.outputs-named t net spots sound placed) s.valuation s.values bits s.state in
      let u = w.0 in
      let P : Scope → Type 0 = λ names. IsLetter names s.valuation in
      let letter = subst P (sym (placed-net.names-are t net spots sound placed)) s.values in
      let state = s.state ∙ sym (spelled-same spots.present (placed-net.present-are t net spots sound placed) u bits w.1.present) in
      let Q : Table → Type 0 = λ x. table_holds s.valuation x ≡ true in
      let holds = subst Q (same-table s.table s.held s.only) s.holds in
      let first = part_value spots.signals table in
      let one : Bits → Bool = λ b. number_of (spot_at spots.signals signal) 0 b == 1 in
      let now = present_values spots.signals net.latches spots.present in
      let first-is = table-holds spots.signals signals-are s.valuation u w.1.signals letter table table-known holds in
      let one-is = eq-eqb (number_of (spot_at spots.signals signal) 0 u) 1 (sym (number-at spots.signals u signal signal-known) ∙ (λ i. slice_index (w.1.signals i) signal) ∙ s.accepts) in
      let now-is = present-hold spots.signals signals-are s.valuation u w.1.signals letter net.latches spots.present (placed-net.outputs-known t net spots sound placed) state in (
        u,
        w.1.outside,
        w.1.present,
        all-append (first ∷ one ∷ []) now u
            ∙ and_from (all_mean (first ∷ one ∷ []) u) (all_mean now u) (and_from (first u) (one u && true) first-is (and_from (one u) true one-is refl)) now-is,
      )
