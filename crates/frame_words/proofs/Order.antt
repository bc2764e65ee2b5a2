-- How the levels of a frame lie.
use Rattle.std.proofs.Common.{◌≡◌, ◌==◌, ◌+◌, ◌<◌, ◌≤◌, ◌⊎◌, ◌∙◌, inl, inr, ℕ, true, nat_eq, List, [], ◌∷◌, map, length, Option, sym, ap, subst, arith}
use Rattle.std.specs.Prelude.{All}
use Rattle.std.specs.List.{list_any, range_with_len}
use Rattle.std.proofs.lemmas.Bool.{cases_Bool, false≢true, eqb-true, or_cases, or_left, or_right}
use Rattle.std.proofs.lemmas.List.Elements.{All-head, All-tail, All-map, All-weaker}
use Rattle.std.proofs.lemmas.List.Folds.{list_any-append}
use Rattle.name_table.specs.CodeBits.{bits_in}
use Rattle.name_table.specs.ScopeVars.{variable_at}
use Rattle.node_table.specs.Table.{Table}
use Rattle.bdd_ops.specs.Levels.{is_in}
use Rattle.mv_encoding.specs.Layouts.{Layout, levels_of}
use Rattle.mv_encoding.specs.Spots.{all_levels}
use Rattle.mv_encoding.proofs.Ranges.{range-in}
use Rattle.net_model.specs.Equation.{Topology}
use Rattle.net_model.specs.Nets.{Net}
use Rattle.net_model.specs.Conditions.{latch_outputs}
use Rattle.net_model.specs.NetLanguages.{letter_signals}
use Rattle.net_model.specs.Outlines.{outline, IsWired}
use Rattle.net_model.proofs.Outlined.{file-wired}
use Rattle.net_model.specs.Problems.{File, Problem, IsSoundFile, file_letters, IsBuilt}
use Rattle.net_model.specs.declared.class.Mode.{Mode}
use Rattle.net_model.specs.declared.class.Mode.TheVariants.{Sync}
use Rattle.net_problem.specs.ProblemBits.{own_scope, file_bits, joint_bits}
use Rattle.net_frame.specs.Frames.{Frame, AreJoint, FitsProblem, own_spot, next_spot, signal_spot, spot_named, net_spots, file_spots, joint_of}
use Rattle.net_frame.specs.Making.{has_spot, HasLetters}
use Rattle.net_frame.proofs.Grounds.{Grounds, grounds, files-joint, joint-ends, has-letters}
use Rattle.net_frame.proofs.JointLevels.{EndsBelow}
use Rattle.net_frame.proofs.LetterSpots.{letters-are, own-is}
use Rattle.net_frame.proofs.OwnPlaces.{LiesIn, in-present, in-next}
use Rattle.net_frame.proofs.Pairwise.{all-range}
use Rattle.net_frame.proofs.Standing.{each-output}
use Rattle.net_frame.proofs.Summed.{own-within}
use Rattle.frame_words.specs.Levels.{LiesAround, AreInOrder}
use Rattle.frame_words.proofs.Named.{holds-named}

-- what is said of the levels of one code
abbrev Says : (ℕ → Type 0) → Layout → Type 0
Says P spot = (k : ℕ) → is_in (levels_of spot) k ≡ true → P k

-- what is said of each code holds at the levels of all
each-level : (P : ℕ → Type 0) (spots : List Layout) → All (Says P) spots → (k : ℕ) → is_in (all_levels spots) k ≡ true → P k
each-level P [] all k is = absurd (false≢true is)
each-level P (spot ∷ spots) all k is =
    elim (or_cases (is_in (levels_of spot) k) (is_in (all_levels spots) k) (sym (list_any-append (λ l. l == k) (levels_of spot) (all_levels spots)) ∙ is)) [
      | inl here ↦ All-head (Says P) spot spots all k here
      | inr there ↦ each-level P spots (All-tail (Says P) spot spots all) k there
    ]

-- the levels of one code are among those of all
level-among : (f : ℕ → Layout) (numbers : List ℕ) (n k : ℕ) → list_any (nat_eq n) numbers ≡ true → is_in (levels_of (f n)) k ≡ true → is_in (all_levels (map f numbers)) k ≡ true
level-among f [] n k there at = absurd (false≢true there)
level-among f (m ∷ numbers) n k there at =
    list_any-append (λ l. l == k) (levels_of (f m)) (all_levels (map f numbers))
    ∙ elim (or_cases (nat_eq n m) (list_any (nat_eq n) numbers) there) [
      | inl here ↦ or_left (is_in (levels_of (f m)) k) (is_in (all_levels (map f numbers)) k) (ap (λ i. is_in (levels_of (f i)) k) (sym (eqb-true n m here)) ∙ at)
      | inr later ↦ or_right (is_in (levels_of (f m)) k) (is_in (all_levels (map f numbers)) k) (level-among f numbers n k later at)
    ]

-- a file whose own levels begin at `level`, where the letters end below `start`
module _ (t : Table) (net : Net) (sound : IsWired net) (joint : List Layout) (start level : ℕ) (low : start ≤ level) (room : level + bits_in (own_scope net) ≤ t.levels) where
  letters-low : All (λ signal. EndsBelow start (spot_named joint (variable_at net.names signal).name)) (letter_signals net) → (k : ℕ) → is_in (all_levels (map (signal_spot Sync joint net level) (letter_signals net))) k ≡ true → k < start
  letters-low ends =
      subst (λ (spots : List Layout). (k : ℕ) → is_in (all_levels spots) k ≡ true → k < start) (letters-are Sync joint net level)
      (each-level (λ k. k < start) (map (λ signal. spot_named joint (variable_at net.names signal).name) (letter_signals net))
      (All-map (Says (λ k. k < start)) (λ signal. spot_named joint (variable_at net.names signal).name) (letter_signals net)
      (All-weaker (λ signal. EndsBelow start (spot_named joint (variable_at net.names signal).name)) (λ signal. Says (λ k. k < start) (spot_named joint (variable_at net.names signal).name))
      (λ signal below k at.
      let spot = spot_named joint (variable_at net.names signal).name in
      let within = range-in (bits_in spot.scope) spot.first k at in
      omega (arith, within.1, below))
      (letter_signals net) ends)))

  abbrev IsSignalLevel : ℕ → Type 0
  IsSignalLevel k = (is_in (all_levels (map (signal_spot Sync joint net level) (letter_signals net))) k ≡ true) ⊎ (start ≤ k)

  signal-level : (signal : ℕ) → Says IsSignalLevel (signal_spot Sync joint net level signal)
  signal-level signal k at =
      elim (cases_Bool (list_any (nat_eq signal) (letter_signals net))) [
        | inl is ↦ inl (level-among (signal_spot Sync joint net level) (letter_signals net) signal k is at)
        | inr none ↦
            let own = sym (ap (λ (spot : Layout). is_in (levels_of spot) k) (own-is Sync joint net level signal none)) ∙ at in
            let spot = own_spot net level signal in
            let within = range-in (bits_in spot.scope) spot.first k own in
            inr (omega (arith, within.0, low))
      ]

  signals-around : (k : ℕ) → is_in (all_levels (map (signal_spot Sync joint net level) (range_with_len 0 (length net.names)))) k ≡ true → IsSignalLevel k
  signals-around =
      each-level IsSignalLevel (map (signal_spot Sync joint net level) (range_with_len 0 (length net.names)))
      (all-range (Says IsSignalLevel) (signal_spot Sync joint net level) (length net.names) (λ signal known. signal-level signal))

  abbrev IsOwnLevel : ℕ → Type 0
  IsOwnLevel k = (start ≤ k) × (k < t.levels)

  lies-own : (signal : ℕ) (spot : Layout) → signal < length net.names → LiesIn net level signal spot → Says IsOwnLevel spot
  lies-own signal spot known lies k at =
      let within = range-in (bits_in spot.scope) spot.first k at in
      let inside = own-within net signal known in
      (omega (arith, within.0, lies.low, low), omega (arith, within.1, lies.high, inside, room))

  around : All (λ signal. EndsBelow start (spot_named joint (variable_at net.names signal).name)) (letter_signals net) → LiesAround t start (net_spots Sync joint level net)
  around ends = record {
    letters = letters-low ends;
    signals = signals-around;
    present = each-level IsOwnLevel (map (own_spot net level) (latch_outputs net))
        (each-output net sound (own_spot net level) (Says IsOwnLevel) (λ output good. lies-own output (own_spot net level output) good.known (in-present net level output good.is)));
    next = each-level IsOwnLevel (map (next_spot net level) (latch_outputs net))
        (each-output net sound (next_spot net level) (Says IsOwnLevel) (λ output good. lies-own output (next_spot net level output) good.known (in-next net level output good.is)));
  }

file-around : (t : Table) (topology : Topology) (first level : ℕ) → topology.mode ≡ Sync → Grounds topology → first + joint_bits topology ≤ level → (file : File) → IsSoundFile file → AreJoint topology.joint (file_letters file) → level + file_bits file ≤ t.levels → LiesAround t (first + joint_bits topology) (file_spots topology.mode (joint_of topology first) level file)
file-around t topology first level sync ground low file sound are room =
    let net = outline file in
    let joint = joint_of topology first in
    let start = first + joint_bits topology in
    let has : All (λ signal. has_spot joint (variable_at net.names signal).name ≡ true) (letter_signals net) =
    subst (λ (mode : Mode). HasLetters mode joint net) sync (has-letters topology first ground file (λ _. are)) in
    subst (λ (mode : Mode). LiesAround t start (net_spots mode joint level net)) (sym sync)
    (around t net (file-wired file sound) joint start level low room
    (All-weaker (λ signal. has_spot joint (variable_at net.names signal).name ≡ true) (λ signal. EndsBelow start (spot_named joint (variable_at net.names signal).name))
    (λ signal there. holds-named (EndsBelow start) joint (variable_at net.names signal).name (joint-ends topology first ground) there)
    (letter_signals net) has))

pub in-order : (t : Table) (problem : Problem) (third : Option File) (frame : Frame) → IsBuilt problem → problem.topology.mode ≡ Sync → FitsProblem t problem third frame → AreInOrder t frame
in-order t problem third frame built sync fits =
    let ground = grounds problem built in
    let first = fits.first in
    let start = first + joint_bits problem.topology in
    let joint = files-joint problem built sync in
    let exist = fits.exist in
    subst (λ (other : Frame). AreInOrder t other) (sym fits.is) (record {
      start = start;
      within = omega (arith, exist);
      x = λ k at.
          let within = range-in (bits_in problem.topology.x) first k at in
          let few = ground.x_few in
          omega (arith, within.1, few);
      f = file-around t problem.topology first start sync ground (omega arith) problem.f built.f_sound joint.0 (omega (arith, exist));
      s = file-around t problem.topology first (start + file_bits problem.f) sync ground (omega arith) problem.s built.s_sound joint.1 (omega (arith, exist));
    })
