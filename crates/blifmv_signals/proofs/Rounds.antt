-- What varies in a network whose signals have names can be marked.
use Rattle.std.proofs.Common.{◌≡◌, ◌<◌, ◌≤◌, ◌⊎◌, inl, inr, ℕ, zero, suc, Bool, true, false, not, List, [], ◌∷◌, ◌++◌, length, replicate, slice_set, if◌then◌else◌, All, Contains, IsTrue, refl, sym, subst, append_assoc, arith}
use Rattle.std.specs.List.{list_any}
use Rattle.std.proofs.lemmas.List.{append-nil, length-set, length-replicate}
use Rattle.std.proofs.lemmas.List.Elements.{All-nil, All-cons, All-head, All-tail}
use Rattle.net_model.specs.Nets.{Net, Table}
use Rattle.net_model.specs.Conditions.{latch_outputs, Varies}
use Rattle.net_model.specs.SoundNets.{HasKnownSignals}
use Rattle.net_conditions.specs.Marks.{is_marked, IsSetOf, Adds, GrowsIf, count_left}
use Rattle.net_conditions.specs.Rounds.{outputs_by, AreVarying, IsClosed}
use Rattle.net_conditions.proofs.Closure.{varying_first, varying_more, closed_more, grows_then, grows_no_more, IsSetOf-varying}
use Rattle.net_conditions.proofs.Marking.{Adds-none, Adds-more, grows_by, grows_not}
use Rattle.net_conditions.proofs.Named.{are_below, sources_known, table_outs_known}
use Rattle.blifmv_signals.specs.Marked.{all_marked}

-- each of these signals has a place in the set
abbrev AreIn : List Bool → List ℕ → Type 0
AreIn set signals = All (λ signal. signal < length set) signals

-- to mark signals one after another adds them

marked_more : (old mid : List Bool) (had signals : List ℕ) → Adds old had mid → AreIn old signals → Adds old (had ++ signals) (all_marked mid signals)
marked_more old mid had [] adds within = subst (λ all. Adds old all mid) (sym (append-nil had)) adds
marked_more old mid had (signal ∷ signals) adds within =
    let IsIn : ℕ → Type 0 = λ k. k < length old in
    let new = slice_set mid signal true in
    subst (λ all. Adds old all (all_marked new signals)) (append_assoc had (signal ∷ []) signals)
    (marked_more old new (had ++ signal ∷ []) signals
    (Adds-more old mid new had signal adds (All-head IsIn signal signals within) refl) (All-tail IsIn signal signals within))

marked_adds : (set : List Bool) (signals : List ℕ) → AreIn set signals → Adds set signals (all_marked set signals)
marked_adds set signals within = marked_more set set [] signals (Adds-none set) within

-- the set has grown, or it is the same
abbrev GrowsOrNot : List Bool → List Bool → Type 0
GrowsOrNot old new = (grown : Bool) × GrowsIf grown old new

grows_behind : (old mid new : List Bool) (grown again : Bool) → GrowsIf grown old mid → GrowsIf again mid new → GrowsOrNot old new
grows_behind old mid new grown true first second = (true, grows_then grown true old mid new first second refl)
grows_behind old mid new grown false first second = (grown, grows_no_more grown false old mid new first second refl)

mark_grows : (set : List Bool) (signal : ℕ) (is_new : Bool) → signal < length set → is_new ≡ not (is_marked set signal) → GrowsOrNot set (slice_set set signal true)
mark_grows set signal true within is = (true, grows_by false set set (slice_set set signal true) signal true refl within refl is refl)
mark_grows set signal false within is = (false, grows_not false set set (slice_set set signal true) signal false refl refl is refl)

marks_grow : (set : List Bool) (signals : List ℕ) → AreIn set signals → GrowsOrNot set (all_marked set signals)
marks_grow set [] within = (false, refl)
marks_grow set (signal ∷ signals) within =
    let new = slice_set set signal true in
    let first = mark_grows set signal (not (is_marked set signal)) (All-head (λ k. k < length set) signal signals within) refl in
    let rest = marks_grow new signals
    (subst (λ n. All (λ k. k < n) signals) (sym (length-set set signal true)) (All-tail (λ k. k < length set) signal signals within)) in
    grows_behind set new (all_marked new signals) first.0 rest.0 first.1 rest.1

outputs_in : (set : List Bool) (outs : List ℕ) (reads : Bool) → AreIn set outs → AreIn set (if reads then outs else [])
outputs_in set outs true within = within
outputs_in set outs false within = All-nil (λ k. k < length set)

module _ (net : Net) (known : HasKnownSignals net) where
  -- more of what varies
  record Larger (set : List Bool) : Type 0 where
    new : List Bool
    varying : AreVarying net new
    less : count_left new < count_left set

  -- a table adds to the set, or none of them does
  grown_or_closed : (tables : List Table) → ((table : Table) → Contains tables table → Contains net.tables table) → (set : List Bool) → AreVarying net set → IsClosed tables set ⊎ Larger set
  grown_or_closed [] held set varying = inl (All-nil _)
  grown_or_closed (table ∷ tables) held set varying =
      by grows.0 grows.1 (grown_or_closed tables (λ other at. let lt = at.1 in held other (suc at.0, omega arith, at.2)) set varying)
    where
      outs : List ℕ
      outs = outputs_by set table

      new : List Bool
      new = all_marked set outs

      here : Contains net.tables table
      here = held table (0, omega arith, refl)

      within : AreIn set outs
      within =
          outputs_in set table.outs (list_any (is_marked set) table.ins)
          (are_below (length net.names) (length set) table.outs table.outs varying.len refl (table_outs_known net table here known))

      adds : Adds set outs new
      adds = marked_adds set outs within

      grows : GrowsOrNot set new
      grows = marks_grow set outs within

      by : (grown : Bool) → GrowsIf grown set new → IsClosed tables set ⊎ Larger set → IsClosed (table ∷ tables) set ⊎ Larger set
      by true less rest = inr (record { new = new; varying = varying_more net table set new here varying adds; less = less })
      by false same (inl closed) =
          let P : Table → Type 0 = λ t. All (λ signal. IsTrue (is_marked set signal)) (outputs_by set t) in
          let one = subst (λ s. IsClosed (table ∷ []) s) same (closed_more [] table set new (All-nil _) same adds) in
          inl (All-cons P table tables (All-head P table [] one) closed)
      by false same (inr larger) = inr larger

  -- a set is larger at most as often as it has signals without a mark
  closed_after : (rounds : ℕ) (set : List Bool) → AreVarying net set → count_left set ≤ rounds → (all : List Bool) × IsSetOf all (Varies net)
  closed_after zero set varying few = elim (grown_or_closed net.tables (λ _ at. at) set varying) [
    | inl closed ↦ (set, IsSetOf-varying net set varying closed)
    | inr larger ↦ let less = larger.less in absurd (omega (arith, few, less))
  ]
  closed_after (suc rounds) set varying few = elim (grown_or_closed net.tables (λ _ at. at) set varying) [
    | inl closed ↦ (set, IsSetOf-varying net set varying closed)
    | inr larger ↦ let less = larger.less in closed_after rounds larger.new larger.varying (omega (arith, few, less))
  ]

  pub varying_marked : (all : List Bool) × IsSetOf all (Varies net)
  varying_marked =
      let sources = net.inputs ++ latch_outputs net in
      let none = replicate (length net.names) false in
      let within : AreIn none sources = are_below (length net.names) (length none) sources sources (length-replicate (length net.names) false) refl (sources_known net known) in
      let first = all_marked none sources in
      closed_after (count_left first) first (varying_first net (length net.names) sources first refl refl (marked_adds none sources within)) (omega arith)
