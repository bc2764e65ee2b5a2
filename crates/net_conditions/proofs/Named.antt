use Rattle.std.proofs.Common.{◌≡◌, ◌<◌, ◌+◌, ℕ, Bool, true, false, List, [], ◌∷◌, ◌++◌, length, All, Contains, Decides, sym, subst, arith}
use Rattle.std.specs.List.{flat_map}
use Rattle.std.proofs.lemmas.List.{get_or-append-add, get_or_append_left, length-append}
use Rattle.std.proofs.lemmas.List.Elements.{All-nil, All-append, All-head, All-tail, All-map, All-weaker, All-contains}
use Rattle.net_model.specs.Nets.{Net, Table}
use Rattle.net_model.specs.Conditions.{drives, latch_outputs, columns_of}
use Rattle.net_conditions.proofs.Listed.{Decides-second, Decides-failed}
use Rattle.net_model.specs.SoundNets.{HasKnownSignals, AreKnown}

-- The lists of signals of a network whose signals have names.

All-right : {X : Type 0} (P : X → Type 0) (xs ys : List X) → All P (xs ++ ys) → All P ys
All-right P xs ys all k d lt =
    let long = length-append xs ys in subst P (get_or-append-add xs ys k d) (all (length xs + k) d (omega arith))

All-left : {X : Type 0} (P : X → Type 0) (xs ys : List X) → All P (xs ++ ys) → All P xs
All-left P xs ys all k d lt =
    let long = length-append xs ys in subst P (get_or_append_left xs ys d k lt) (all k d (omega arith))

-- two tests, one for each of two lists, decide for both together
module _ {X : Type 0} (P : X → Type 0) (xs ys : List X) (first : Bool) (of_first : Decides first (All P xs)) where
  pub Decides-both : (second : Bool) → Decides second (All P ys) → first ≡ true → Decides second (All P (xs ++ ys))
  Decides-both second of_second = Decides-second first second of_first (All-left P xs ys) of_second (All-right P xs ys) (All-append P xs ys)

  pub Decides-not_both : first ≡ false → Decides first (All P (xs ++ ys))
  Decides-not_both is = Decides-failed first first of_first (All-left P xs ys) is is

All-flat_map : {X Y : Type 0} (P : Y → Type 0) (f : X → List Y) (xs : List X) → All (λ x. All P (f x)) xs → All P (flat_map f xs)
All-flat_map P f [] all = All-nil P
All-flat_map {X = X} P f (x ∷ xs) all =
    let Q : X → Type 0 = λ y. All P (f y) in
    All-append P (f x) (flat_map f xs) (All-head Q x xs all) (All-flat_map P f xs (All-tail Q x xs all))

module _ (net : Net) where
  abbrev IsKnown : ℕ → Type 0
  IsKnown signal = signal < length net.names

  outs_known : (table : Table) → AreKnown net (columns_of table) → AreKnown net table.outs
  outs_known table = All-right IsKnown table.ins table.outs

  all_outs_known : (tables : List Table) → All (λ table. AreKnown net (columns_of table)) tables → AreKnown net (flat_map (λ table. table.outs) tables)
  all_outs_known tables all =
      All-flat_map IsKnown (λ table. table.outs) tables (All-weaker (λ table. AreKnown net (columns_of table)) (λ table. AreKnown net table.outs) outs_known tables all)

  pub latch_outputs_known : HasKnownSignals net → AreKnown net (latch_outputs net)
  latch_outputs_known known =
      All-map IsKnown (λ latch. latch.output) net.latches
      (All-weaker (λ latch. AreKnown net (latch.input ∷ latch.output ∷ [])) (λ latch. IsKnown latch.output)
      (λ latch ends. ends 1 0 (omega arith)) net.latches known.latches)

  pub sources_known : HasKnownSignals net → AreKnown net (net.inputs ++ latch_outputs net)
  sources_known known = All-append IsKnown net.inputs (latch_outputs net) known.inputs (latch_outputs_known known)

  pub reset_outputs_known : HasKnownSignals net → AreKnown net (flat_map (λ table. table.outs) net.resets)
  reset_outputs_known known = all_outs_known net.resets known.resets

  pub drives_known : HasKnownSignals net → AreKnown net (drives net)
  drives_known known =
      All-append IsKnown net.inputs _ known.inputs
      (All-append IsKnown _ (latch_outputs net) (all_outs_known net.tables known.tables) (latch_outputs_known known))

  pub table_outs_known : (table : Table) → Contains net.tables table → HasKnownSignals net → AreKnown net table.outs
  table_outs_known table held known = outs_known table (All-contains (λ table'. AreKnown net (columns_of table')) net.tables table known.tables held)

-- a list of signals of the code that is a list of known signals
pub are_below : (n count : ℕ) (given listed : List ℕ) → count ≡ n → given ≡ listed → All (λ v. v < n) listed → All (λ v. v < count) given
are_below n count given listed same are known =
    let P : ℕ → Type 0 = λ m. All (λ v. v < m) given in
    let Q : List ℕ → Type 0 = λ signals. All (λ v. v < n) signals in
    subst P (sym same) (subst Q (sym are) known)
