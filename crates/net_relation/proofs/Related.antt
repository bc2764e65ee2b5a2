-- The parts of a network's relation and its steps.
use Rattle.std.proofs.Common.{◌≡◌, ◌⊎◌, inl, inr, ◌∙◌, ◌||◌, ◌==◌, ◌<◌, ℕ, zero, suc, Bool, true, false, List, [], ◌∷◌, ◌++◌, length, map, get_or, refl, sym, ap, arith, subst}
use Rattle.std.specs.Prelude.{All}
use Rattle.std.proofs.lemmas.Bool.{and_parts, and_from}
use Rattle.std.proofs.lemmas.List.Folds.{list_any-append}
use Rattle.net_model.specs.Words.{Scope, IsLetter}
use Rattle.net_model.specs.Nets.{Net}
use Rattle.net_model.specs.Tables.{values_at}
use Rattle.net_model.specs.Conditions.{latch_outputs, columns_of}
use Rattle.net_model.specs.NetLanguages.{letter_signals, Steps}
use Rattle.net_model.specs.SoundNets.{IsSound}
use Rattle.net_model.specs.Written.{IsTextVariable}
use Rattle.std.specs.List.{AllByRecursion}
use Rattle.node_table.specs.Table.{Bits, Table}
use Rattle.bdd_ops.specs.Levels.{is_in, SameAt}
use Rattle.mv_encoding.specs.Spots.{variables_at, all_levels, spelled, spell_values}
use Rattle.mv_encoding.proofs.Apart.{spelled-same, spelled-back, values-test}
use Rattle.table_parts.specs.TableParts.{part_value}
use Rattle.net_frame.specs.Placing.{FileSpots, IsPlaced}
use Rattle.part_relation.specs.Steps.{StandsForSteps}
use Rattle.net_relation.specs.Relations.{part_meanings, step_code, latch_values, all_mean, AreFor}
use Rattle.net_relation.proofs.Spelled.{spelled-at, values-among, valued, valued-letter, columns-valued}
use Rattle.net_relation.proofs.Found.{all-append, tables-found, latches-found}
use Rattle.net_relation.proofs.Written.{IsWritten, write, tables-hold, latches-hold}
use Rattle.net_relation.proofs.Added.{are-all, are-valid}
use Rattle.net_relation.proofs.PlacedNet as placed-net

-- each signal has a value
pub some-values : (names : Scope) → AllByRecursion IsTextVariable names → All (λ v. 0 < length v.values) names
some-values [] texts k d within = absurd (omega (arith, within))
some-values (v ∷ names) texts zero d within = texts.0.some
some-values (v ∷ names) texts (suc k) d within = some-values names texts.1 k d (omega (arith, within))

pub either : (a b : Bool) → (a || b) ≡ true → (a ≡ true) ⊎ (b ≡ true)
either true b is = inl refl
either false b is = inr is

-- bits that agree at some levels and at others agree at all
pub same-both : (xs ys : List ℕ) (u v : Bits) → SameAt xs u v → SameAt ys u v → SameAt (xs ++ ys) u v
same-both xs ys u v here there k is =
    elim (either (is_in xs k) (is_in ys k) (sym (list_any-append (λ l. l == k) xs ys) ∙ is)) [ inl a ↦ here k a | inr b ↦ there k b ]

module _ (t : Table) (net : Net) (spots : FileSpots) (sound : IsSound net) (placed : IsPlaced t net spots) where
  -- the values that the bits spell, as a valuation of the network
  pub valuation : (bits : Bits) → IsLetter net.names (valued spots.signals bits)
  valuation bits =
      let are = placed-net.names-are t net spots sound placed in
      let P : Scope → Type 0 = λ names. All (λ v. 0 < length v.values) names in
      let Q : Scope → Type 0 = λ names. IsLetter names (valued spots.signals bits) in
      subst Q are (valued-letter spots.signals bits (subst P (sym are) (some-values net.names sound.names)))

  pub tables-known : All (λ table. All (λ s. s < length spots.signals) (columns_of table)) net.tables
  tables-known = λ k d within. placed-net.known-spots t net spots sound placed (columns_of (get_or net.tables k d)) (sound.known.tables k d within)

  relation-found : (bits : Bits) → all_mean (part_meanings net spots) bits ≡ true → Steps net (spelled spots.present bits) (spelled spots.letters bits) (spelled spots.next bits)
  relation-found bits is =
      let are = placed-net.signals-are t net spots sound placed in
      let tables = map (part_value spots.signals) net.tables in
      let latches = latch_values spots.signals net.latches spots.present spots.next in
      let parts = and_parts (all_mean (tables ++ latches) bits) (all_mean (spell_values spots.letters ∷ []) bits) (sym (all-append (tables ++ latches) (spell_values spots.letters ∷ []) bits) ∙ is) in
      let halves = and_parts (all_mean tables bits) (all_mean latches bits) (sym (all-append tables latches bits) ∙ parts.0) in
      let letters = and_parts (spell_values spots.letters bits) true parts.1 in
      let moved = latches-found spots.signals are bits net.latches spots.present spots.next (placed-net.present-long t net spots sound placed) (placed-net.next-long t net spots sound placed) (placed-net.latches-known t net spots sound placed) halves.1 in
      let known = placed-net.letters-known t net spots sound placed in
      record {
        valuation = valued spots.signals bits;
        values = valuation bits;
        state = moved.0;
        letter = columns-valued spots.signals are bits (letter_signals net) known (ap (λ l. spell_values l bits) (sym placed.letters) ∙ letters.0)
            ∙ sym (spelled-at spots.signals (letter_signals net) bits known)
            ∙ ap (λ l. spelled l bits) (sym placed.letters);
        tables = tables-found spots.signals are bits net.tables tables-known halves.0;
        next = moved.1;
      }

  -- the letters of a valuation that is written
  pub written-letters : (v : List ℕ) (bits u : Bits) → IsWritten spots v bits u → values_at v (letter_signals net) ≡ spelled spots.letters u
  written-letters v bits u w =
      let known = placed-net.letters-known t net spots sound placed in
      sym (λ i. values_at (w.signals i) (letter_signals net)) ∙ sym (spelled-at spots.signals (letter_signals net) u known) ∙ ap (λ l. spelled l u) (sym placed.letters)

  relation-holds : (bits : Bits) → Steps net (spelled spots.present bits) (spelled spots.letters bits) (spelled spots.next bits)
      → (u : Bits) × SameAt (step_code spots).levels u bits × (all_mean (part_meanings net spots) u ≡ true)
  relation-holds bits s =
      let are = placed-net.signals-are t net spots sound placed in
      let known = placed-net.latches-known t net spots sound placed in
      let outputs : All (λ x. x < length net.names) (latch_outputs net) = placed-net.outputs-named t net spots sound placed in
      let w = write t net spots placed outputs s.valuation s.values bits s.state in
      let u = w.0 in
      let letters-same = spelled-back spots.letters (placed-net.letters-are t net spots sound placed) u bits (sym (written-letters s.valuation bits u w.1) ∙ s.letter) in
      let P : Scope → Type 0 = λ names. IsLetter names s.valuation in
      let letter = subst P (sym (placed-net.names-are t net spots sound placed)) s.values in
      let state = s.state ∙ sym (spelled-same spots.present (placed-net.present-are t net spots sound placed) u bits w.1.present) in
      let step = s.next ∙ sym (spelled-same spots.next (placed-net.next-are t net spots sound placed) u bits w.1.next) in
      let tables = map (part_value spots.signals) net.tables in
      let latches = latch_values spots.signals net.latches spots.present spots.next in
      let tables-are = tables-hold spots.signals are s.valuation u w.1.signals letter net.tables tables-known s.tables in
      let latches-are = latches-hold spots.signals are s.valuation u w.1.signals letter net.latches spots.present spots.next known state step in
      let all-known = placed-net.letters-known t net spots sound placed in
      let all = values-test spots.signals are u in
      let Q : List ℕ → Type 0 = λ v. IsLetter (variables_at spots.signals) v in
      let letters-are = ap (λ l. spell_values l u) placed.letters ∙ values-among spots.signals u (all.1 (subst Q (sym w.1.signals) letter)) (letter_signals net) all-known in (
        u,
        same-both (all_levels spots.present) (all_levels spots.letters ++ all_levels spots.next) u bits w.1.present (same-both (all_levels spots.letters) (all_levels spots.next) u bits letters-same w.1.next),
        all-append (tables ++ latches) (spell_values spots.letters ∷ []) u
            ∙ and_from (all_mean (tables ++ latches) u) (all_mean (spell_values spots.letters ∷ []) u)
            (all-append tables latches u ∙ and_from (all_mean tables u) (all_mean latches u) tables-are latches-are)
            (and_from (spell_values spots.letters u) true letters-are refl),
      )

  -- parts for these meanings stand for the steps
  pub related : (s : Table) (parts : List ℕ) → AreFor s parts (part_meanings net spots) → StandsForSteps s parts (step_code spots) (Steps net)
  related s parts are = record {
    valid = are-valid s parts (part_meanings net spots) are;
    found = λ bits is. relation-found bits (sym (are-all s parts (part_meanings net spots) are bits) ∙ is);
    holds = λ bits step. let some = relation-holds bits step in (some.0, some.1, are-all s parts (part_meanings net spots) are some.0 ∙ some.2);
  }
