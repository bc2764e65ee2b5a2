-- The parts of a file's relation read the levels of its signals and states alone.
use Rattle.std.proofs.Common.{◌≡◌, ◌==◌, ◌++◌, ◌&&◌, ℕ, zero, suc, Bool, true, false, List, [], ◌∷◌, map, refl, sym, ap, ◌∙◌, subst}
use Rattle.std.proofs.lemmas.Bool.{false≢true}
use Rattle.std.specs.List.{list_any}
use Rattle.std.proofs.lemmas.List.Elements.{All-head, All-tail}
use Rattle.std.proofs.lemmas.List.Folds.{list_all-append}
use Rattle.node_table.specs.Table.{Bits, Table}
use Rattle.bdd_ops.specs.Levels.{SameAt}
use Rattle.name_table.specs.CodeBits.{bits_in}
use Rattle.mv_encoding.specs.Layouts.{Layout, number_of, numbers_of, levels_of, is_letter}
use Rattle.mv_encoding.specs.Spots.{IsSpot, AreSpots, all_levels, spelled, spell_values, spot_at, spots_at}
use Rattle.mv_encoding.proofs.Apart.{spot-same, spelled-same}
use Rattle.mv_encoding.proofs.Letters.{numbers-same}
use Rattle.mv_encoding.proofs.Ranges.{in-range}
use Rattle.part_relation.specs.Plans.{all_hold}
use Rattle.net_model.specs.Nets.{Latch, Table as NetTable, Net}
use Rattle.net_model.specs.Tables.{table_holds}
use Rattle.net_model.specs.Conditions.{columns_of}
use Rattle.net_model.specs.Machines.{Machine, row_leads}
use Rattle.net_model.specs.Outlines.{outline_of}
use Rattle.net_model.specs.NetLanguages.{letter_signals, states_of}
use Rattle.net_model.specs.SoundNets.{IsSound}
use Rattle.net_model.specs.Problems.{File, NetFile, MachineFile, IsSoundFile}
use Rattle.net_frame.specs.Placing.{FileSpots, IsPlaced}
use Rattle.net_frame.specs.Frames.{IsFilePlaced}
use Rattle.table_parts.specs.TableParts.{part_value}
use Rattle.net_relation.specs.Relations.{AreFor, all_mean, part_meanings, file_meanings, latch_values, has_value_of}
use Rattle.net_relation.proofs.Added.{are-all}
use Rattle.net_relation.proofs.Spelled.{spots-of}
use Rattle.net_relation.proofs.PlacedNet as placed-net
use Rattle.sync_solve.specs.Files.{file_levels}
use Rattle.sync_solve.proofs.Products.{in-left, in-right}

-- any code spells the same numbers where its bits are the same
pub layout-same : (layout : Layout) (u v : Bits) → SameAt (levels_of layout) u v → numbers_of layout u ≡ numbers_of layout v
layout-same layout u v same = numbers-same layout.scope layout.first u v (λ k low high. same k (in-range (bits_in layout.scope) layout.first k low high))

module _ (u v : Bits) where
  -- bits that are the same at all spots are so at each
  pub at-spot : (spots : List Layout) → SameAt (all_levels spots) u v → (s : ℕ) → SameAt (levels_of (spot_at spots s)) u v
  at-spot [] same s k member = absurd (false≢true member)
  at-spot (spot ∷ spots) same zero k member = same k (in-left (levels_of spot) (all_levels spots) k member)
  at-spot (spot ∷ spots) same (suc s) k member = at-spot spots (λ l there. same l (in-right (levels_of spot) (all_levels spots) l there)) s k member

  number-at : (spots : List Layout) → AreSpots spots → SameAt (all_levels spots) u v → (s : ℕ) → number_of (spot_at spots s) 0 u ≡ number_of (spot_at spots s) 0 v
  number-at [] are same s = refl
  number-at (spot ∷ spots) are same zero = spot-same spot (All-head IsSpot spot spots are) u v (λ k member. same k (in-left (levels_of spot) (all_levels spots) k member))
  number-at (spot ∷ spots) are same (suc s) = number-at spots (All-tail IsSpot spot spots are) (λ l there. same l (in-right (levels_of spot) (all_levels spots) l there)) s

  values-at : (spots : List Layout) → SameAt (all_levels spots) u v → (signals : List ℕ) → spell_values (spots_at spots signals) u ≡ spell_values (spots_at spots signals) v
  values-at spots same [] = refl
  values-at spots same (s ∷ signals) = λ i. is_letter (spot_at spots s).scope (layout-same (spot_at spots s) u v (at-spot spots same s) i) && values-at spots same signals i

  module _ (signals : List Layout) (are : AreSpots signals) (same : SameAt (all_levels signals) u v) where
    tables-read : (tables : List NetTable) → all_mean (map (part_value signals) tables) u ≡ all_mean (map (part_value signals) tables) v
    tables-read [] = refl
    tables-read (table ∷ tables) = λ i. (values-at signals same (columns_of table) i && table_holds (spelled-same signals are u v same i) table) && tables-read tables i

    value-read : (spot : Layout) → number_of spot 0 u ≡ number_of spot 0 v → (s : ℕ) → has_value_of signals spot s u ≡ has_value_of signals spot s v
    value-read spot number s = λ i. is_letter (spot_at signals s).scope (layout-same (spot_at signals s) u v (at-spot signals same s) i) && (number i == number-at signals are same s i)

    numbers-read : (chosen : List ℕ) → spelled (spots_at signals chosen) u ≡ spelled (spots_at signals chosen) v
    numbers-read [] = refl
    numbers-read (s ∷ chosen) = λ i. number-at signals are same s i ∷ numbers-read chosen i

    latches-read : (latches : List Latch) (present next : List Layout) → AreSpots present → AreSpots next → SameAt (all_levels present) u v → SameAt (all_levels next) u v
        → all_mean (latch_values signals latches present next) u ≡ all_mean (latch_values signals latches present next) v
    latches-read [] present next are_present are_next now later = refl
    latches-read (latch ∷ latches) [] next are_present are_next now later = refl
    latches-read (latch ∷ latches) (p ∷ present) [] are_present are_next now later = refl
    latches-read (latch ∷ latches) (p ∷ present) (n ∷ next) are_present are_next now later =
        let own = spot-same p (All-head IsSpot p present are_present) u v (λ k member. now k (in-left (levels_of p) (all_levels present) k member)) in
        let other = spot-same n (All-head IsSpot n next are_next) u v (λ k member. later k (in-left (levels_of n) (all_levels next) k member)) in
        let rest = latches-read latches present next (All-tail IsSpot p present are_present) (All-tail IsSpot n next are_next)
        (λ k member. now k (in-right (levels_of p) (all_levels present) k member)) (λ k member. later k (in-right (levels_of n) (all_levels next) k member)) in
        λ i. (value-read p own latch.output i && value-read n other latch.input i) && rest i

mean-append : (xs ys : List (Bits → Bool)) (u v : Bits) → all_mean xs u ≡ all_mean xs v → all_mean ys u ≡ all_mean ys v → all_mean (xs ++ ys) u ≡ all_mean (xs ++ ys) v
mean-append xs ys u v first second = joined xs ys u ∙ (λ i. first i && second i) ∙ sym (joined xs ys v)
  where
    joined : (xs ys : List (Bits → Bool)) (bits : Bits) → all_mean (xs ++ ys) bits ≡ (all_mean xs bits && all_mean ys bits)
    joined [] ys bits = refl
    joined (x ∷ xs) ys bits = ap (λ b. x bits && b) (joined xs ys bits) ∙ sym (and-assoc (x bits) (all_mean xs bits) (all_mean ys bits))
      where
        and-assoc : (a b c : Bool) → ((a && b) && c) ≡ (a && (b && c))
        and-assoc true b c = refl
        and-assoc false b c = refl

net-reads : (s t : Table) (net : Net) (spots : FileSpots) (parts : List ℕ) → IsSound net → IsPlaced s net spots → AreFor t parts (part_meanings net spots) → (u v : Bits) → SameAt (file_levels spots) u v → all_hold t parts u ≡ all_hold t parts v
net-reads s t net spots parts sound placed are u v same =
    let signals : SameAt (all_levels spots.signals) u v = λ k member. same k (in-left (all_levels spots.signals) (all_levels spots.present ++ all_levels spots.next) k member) in
    let states : SameAt (all_levels spots.present ++ all_levels spots.next) u v = λ k member. same k (in-right (all_levels spots.signals) (all_levels spots.present ++ all_levels spots.next) k member) in
    let now : SameAt (all_levels spots.present) u v = λ k member. states k (in-left (all_levels spots.present) (all_levels spots.next) k member) in
    let later : SameAt (all_levels spots.next) u v = λ k member. states k (in-right (all_levels spots.present) (all_levels spots.next) k member) in
    let are_signals = placed-net.signals-are s net spots sound placed in
    let letters : spell_values spots.letters u ≡ spell_values spots.letters v =
    subst (λ l. spell_values l u ≡ spell_values l v) (sym placed.letters) (values-at u v spots.signals signals (letter_signals net)) in
    are-all t parts (part_meanings net spots) are u
    ∙ mean-append (map (part_value spots.signals) net.tables ++ latch_values spots.signals net.latches spots.present spots.next) (spell_values spots.letters ∷ []) u v
    (mean-append (map (part_value spots.signals) net.tables) (latch_values spots.signals net.latches spots.present spots.next) u v
    (tables-read u v spots.signals are_signals signals net.tables)
    (latches-read u v spots.signals are_signals signals net.latches spots.present spots.next (placed-net.present-are s net spots sound placed) (placed-net.next-are s net spots sound placed) now later))
    (λ i. letters i && true)
    ∙ sym (are-all t parts (part_meanings net spots) are v)

machine-reads : (s t : Table) (machine : Machine) (spots : FileSpots) (parts : List ℕ) → IsPlaced s (outline_of machine) spots → AreFor t parts (file_meanings (MachineFile machine) spots) → (u v : Bits) → SameAt (file_levels spots) u v → all_hold t parts u ≡ all_hold t parts v
machine-reads s t machine spots parts placed are u v same =
    let signals : SameAt (all_levels spots.signals) u v = λ k member. same k (in-left (all_levels spots.signals) (all_levels spots.present ++ all_levels spots.next) k member) in
    let states : SameAt (all_levels spots.present ++ all_levels spots.next) u v = λ k member. same k (in-right (all_levels spots.signals) (all_levels spots.present ++ all_levels spots.next) k member) in
    let now : SameAt (all_levels spots.present) u v = λ k member. states k (in-left (all_levels spots.present) (all_levels spots.next) k member) in
    let later : SameAt (all_levels spots.next) u v = λ k member. states k (in-right (all_levels spots.present) (all_levels spots.next) k member) in
    let net = outline_of machine in
    let are_signals = (spots-of spots.signals net.names placed.signals).0 in
    let are_present = (spots-of spots.present (states_of net) placed.present).0 in
    let are_next = (spots-of spots.next (states_of net) placed.next).0 in
    let present = spot_at spots.present 0 in
    let next = spot_at spots.next 0 in
    let values : spell_values spots.letters u ≡ spell_values spots.letters v = subst (λ l. spell_values l u ≡ spell_values l v) (sym placed.letters) (values-at u v spots.signals signals (letter_signals net)) in
    let letters : spelled spots.letters u ≡ spelled spots.letters v = subst (λ l. spelled l u ≡ spelled l v) (sym placed.letters) (numbers-read u v spots.signals are_signals signals (letter_signals net)) in
    let from = number-at u v spots.present are_present now 0 in
    let to = number-at u v spots.next are_next later 0 in
    let here = layout-same present u v (at-spot u v spots.present now 0) in
    let there = layout-same next u v (at-spot u v spots.next later 0) in
    let all : spell_values (spots.letters ++ present ∷ next ∷ []) u ≡ spell_values (spots.letters ++ present ∷ next ∷ []) v =
    list_all-append (λ spot. is_letter spot.scope (numbers_of spot u)) spots.letters (present ∷ next ∷ [])
    ∙ (λ i. values i && (is_letter present.scope (here i) && (is_letter next.scope (there i) && true)))
    ∙ sym (list_all-append (λ spot. is_letter spot.scope (numbers_of spot v)) spots.letters (present ∷ next ∷ [])) in
    are-all t parts (file_meanings (MachineFile machine) spots) are u
    ∙ (λ i. (all i && list_any (row_leads (from i) (letters i) (to i)) machine.rows) && true)
    ∙ sym (are-all t parts (file_meanings (MachineFile machine) spots) are v)

pub file-reads : (s t : Table) (file : File) (spots : FileSpots) (parts : List ℕ) → IsSoundFile file → IsFilePlaced s file spots → AreFor t parts (file_meanings file spots) → (u v : Bits) → SameAt (file_levels spots) u v → all_hold t parts u ≡ all_hold t parts v
file-reads s t (NetFile net) spots parts sound placed are u v same = net-reads s t net spots parts sound placed are u v same
file-reads s t (MachineFile machine) spots parts sound placed are u v same = machine-reads s t machine spots parts placed are u v same
