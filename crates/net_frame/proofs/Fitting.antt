-- The frame of a problem fits it.
use Rattle.std.proofs.Common.{◌≡◌, ◌+◌, ◌≤◌, ◌||◌, ◌∙◌, ℕ, Bool, true, false, cond, nat_eq, List, [], ◌∷◌, ◌++◌, map, length, Option, Some, None, refl, sym, ap, subst, arith}
use Rattle.std.specs.Prelude.{All, IfSome}
use Rattle.std.specs.Option.{option_map}
use Rattle.std.specs.List.{list_any, range_with_len, AllByRecursion}
use Rattle.std.specs.Str.{bytes_eq}
use Rattle.std.proofs.lemmas.Bool.{false≢true}
use Rattle.std.proofs.lemmas.List.Elements.{All-map, All-from_recursion, recursion_from_All}
use Rattle.std.proofs.lemmas.Option.{same_Some}
use Rattle.name_table.specs.CodeBits.{bits_in}
use Rattle.name_table.specs.ScopeVars.{variable_at}
use Rattle.name_table.specs.Variables.{Variable}
use Rattle.node_table.specs.Table.{Table}
use Rattle.net_model.specs.Words.{Scope}
use Rattle.net_model.specs.Equation.{Topology}
use Rattle.net_model.specs.Nets.{Net}
use Rattle.net_model.specs.Conditions.{latch_outputs}
use Rattle.net_model.specs.NetLanguages.{letter_signals, letters_of}
use Rattle.net_model.specs.Outlines.{outline, IsWired}
use Rattle.net_model.specs.Problems.{File, Problem, IsSoundFile, file_letters, IsBuilt}
use Rattle.net_model.specs.Topologies.{is_named, variable_named}
use Rattle.net_model.specs.declared.class.Mode.{Mode}
use Rattle.net_model.specs.declared.class.Mode.TheVariants.{Sync}
use Rattle.mv_encoding.specs.Layouts.{Layout, IsLaid}
use Rattle.mv_encoding.specs.Spots.{AreApart}
use Rattle.net_problem.specs.ProblemBits.{own_scope, file_bits, third_bits, joint_bits, problem_bits}
use Rattle.net_model.proofs.Outlined.{outline-letters, file-wired}
use Rattle.net_frame.specs.Placing.{FileSpots, IsPlaced}
use Rattle.net_frame.specs.Frames.{shared_by, added, joint_spot, joint_spots, spot_named, own_spot, next_spot, signal_spot, net_spots, file_spots, joint_of, frame_of, all_back, third_back, AreJoint, IsFilePlaced, IsThird, FitsProblem}
use Rattle.net_frame.specs.Making.{has_spot}
use Rattle.net_frame.proofs.Among.{holds-among, mapped-holds, each-weaker}
use Rattle.net_frame.proofs.BackLevels.{sources-next, targets-present, reads-present}
use Rattle.net_frame.proofs.BackMaps.{IsBackOn, back-append, back-none, back-net}
use Rattle.net_frame.proofs.Beside.{joint-beside, beside-turned, apart-beside}
use Rattle.net_frame.proofs.Grounds.{Grounds, grounds, files-joint, joint-ends}
use Rattle.net_frame.proofs.JointLevels.{EndsBelow, joint-scope, joint-has}
use Rattle.net_frame.proofs.LetterSpots.{all-among}
use Rattle.net_frame.proofs.Pairwise.{all-range, pairs-range}
use Rattle.net_frame.proofs.Standing.{StandsOn, each-output, signals-scopes, states-scopes, letters-at, signal-laid, signals-beside, next-beside, outputs-placed, letter-states, states-apart, states-laid}

-- what holds of all codes holds of that of a name
named-holds : (P : Layout → Type 0) (spots : List Layout) (name : List ℕ) → AllByRecursion P spots → has_spot spots name ≡ true → P (spot_named spots name)
named-holds P [] name all there = absurd (false≢true there)
named-holds P (spot ∷ spots) name all there =
    elim (bytes_eq (variable_at spot.scope 0).name name) as (λ b. (b || has_spot spots name) ≡ true → P (cond b spot (spot_named spots name)))
    [ true ↦ λ e. all.0 | false ↦ λ e. named-holds P spots name all.1 e ] there

-- its variable is the joint one
named-scope : (x : Scope) (first next : ℕ) (joint : Scope) (name : List ℕ) → is_named joint name ≡ true → (spot_named (joint_spots x first next joint) name).scope ≡ variable_named joint name ∷ []
named-scope x first next [] name there = absurd (false≢true there)
named-scope x first next (v ∷ joint) name there =
    let scope = joint-scope x first next v in
    let test = ap (λ vars. bytes_eq (variable_at vars 0).name name) scope in
    subst (λ (b : Bool). (cond b (joint_spot x first next v) (spot_named (joint_spots x first (next + added x v) joint) name)).scope ≡ variable_named (v ∷ joint) name ∷ []) (sym test)
    (elim (bytes_eq v.name name) as (λ b. (b || is_named joint name) ≡ true → (cond b (joint_spot x first next v) (spot_named (joint_spots x first (next + added x v) joint) name)).scope ≡ cond b v (variable_named joint name) ∷ [])
    [ true ↦ λ e. scope | false ↦ λ e. named-scope x first (next + added x v) joint name e ] there)

-- the letters of a network among the joint variables

module _ (topology : Topology) (first start : ℕ) (ground : Grounds topology) (room : first + joint_bits topology ≤ start) (net : Net) (are : AreJoint topology.joint (letters_of net)) where
  letter-joint : (signal : ℕ) → list_any (nat_eq signal) (letter_signals net) ≡ true → (is_named topology.joint (variable_at net.names signal).name ≡ true) × (variable_named topology.joint (variable_at net.names signal).name ≡ variable_at net.names signal)
  letter-joint signal is =
      holds-among (λ s. (is_named topology.joint (variable_at net.names s).name ≡ true) × (variable_named topology.joint (variable_at net.names s).name ≡ variable_at net.names s)) (letter_signals net)
      (λ i d within. mapped-holds (λ (v : Variable). (is_named topology.joint v.name ≡ true) × (variable_named topology.joint v.name ≡ v)) (variable_at net.names) (letter_signals net) (letters_of net) refl are i d within)
      signal is

  stands-on : StandsOn net (joint_of topology first) start
  stands-on =
      let x = shared_by topology.mode topology.x in
      let next = first + bits_in topology.x in
      record {
        ends = λ signal is.
            let named = letter-joint signal is in
            let ends : EndsBelow (first + joint_bits topology) (spot_named (joint_of topology first) (variable_at net.names signal).name) =
            named-holds (EndsBelow (first + joint_bits topology)) (joint_of topology first) (variable_at net.names signal).name
            (recursion_from_All (EndsBelow (first + joint_bits topology)) (joint_of topology first) (joint-ends topology first ground))
            (joint-has x first next topology.joint (variable_at net.names signal).name ∙ named.0) in
            omega (arith, ends, room);
        scope = λ signal is.
            let named = letter-joint signal is in
            named-scope x first next topology.joint (variable_at net.names signal).name named.0 ∙ ap (λ v. v ∷ []) named.1;
        beside = λ i j is_i is_j differ.
            joint-beside x first next topology.joint (variable_at net.names i).name (variable_at net.names j).name differ ground.shared (omega (arith, ground.fits)) (letter-joint i is_i).0 (letter-joint j is_j).0;
      }

-- the codes of a network

net-placed : (t : Table) (net : Net) → IsWired net → (joint : List Layout) (start : ℕ) → StandsOn net joint start → start + bits_in (own_scope net) ≤ t.levels → IsPlaced t net (net_spots Sync joint start net)
net-placed t net sound joint start standing room =
    let signal = signal_spot Sync joint net start in
    let n = length net.names in
    let scopes = states-scopes net start in
    record {
      letters = letters-at net joint start standing sound;
      signals = signals-scopes net joint start standing;
      present = scopes.0;
      next = scopes.1;
      signals_laid = all-range (λ spot. IsLaid spot t) (signal_spot Sync joint net start) n (signal-laid net joint start standing t room);
      states_laid = states-laid net sound start t room;
      signals_apart = pairs-range AreApart (signal_spot Sync joint net start) n (λ i j less below. apart-beside (signal_spot Sync joint net start i) (signal_spot Sync joint net start j) (signals-beside net joint start standing sound i j less below));
      states_apart = states-apart net sound start;
      letters_apart = All-map (λ letter. All (AreApart letter) (map (own_spot net start) (latch_outputs net) ++ map (next_spot net start) (latch_outputs net))) (signal_spot Sync joint net start) (letter_signals net)
          (All-from_recursion (λ s. All (AreApart (signal_spot Sync joint net start s)) (map (own_spot net start) (latch_outputs net) ++ map (next_spot net start) (latch_outputs net))) (letter_signals net)
          (each-weaker (λ s. list_any (nat_eq s) (letter_signals net) ≡ true) (λ s. All (AreApart (signal_spot Sync joint net start s)) (map (own_spot net start) (latch_outputs net) ++ map (next_spot net start) (latch_outputs net)))
          (λ s is. letter-states net joint start standing sound s is) (letter_signals net) (all-among (letter_signals net))));
      outputs = outputs-placed net joint start standing sound;
      next_apart = each-output net sound (next_spot net start) (λ next. All (AreApart next) (map (signal_spot Sync joint net start) (range_with_len 0 n)))
          (λ output good. all-range (AreApart (next_spot net start output)) (signal_spot Sync joint net start) n
          (λ s known. apart-beside (next_spot net start output) (signal_spot Sync joint net start s) (beside-turned (signal_spot Sync joint net start s) (next_spot net start output) (next-beside net joint start standing s output good))));
      rises = (back-net net start).rises;
      sources_are = sources-next net sound start;
      targets_are = targets-present net sound start;
      reads = reads-present net sound start;
    }

file-placed : (t : Table) (topology : Topology) (first start : ℕ) → Grounds topology → first + joint_bits topology ≤ start → (file : File) → IsSoundFile file → AreJoint topology.joint (file_letters file) → start + file_bits file ≤ t.levels → IsFilePlaced t file (file_spots Sync (joint_of topology first) start file)
file-placed t topology first start ground low file sound are room =
    net-placed t (outline file) (file-wired file sound) (joint_of topology first) start
    (stands-on topology first start ground low (outline file) (subst (AreJoint topology.joint) (sym (outline-letters file)) are)) room

placed-in : (t : Table) (topology : Topology) (first start : ℕ) → topology.mode ≡ Sync → Grounds topology → first + joint_bits topology ≤ start → (file : File) → IsSoundFile file → AreJoint topology.joint (file_letters file) → start + file_bits file ≤ t.levels → IsFilePlaced t file (file_spots topology.mode (joint_of topology first) start file)
placed-in t topology first start sync ground low file sound are room =
    subst (λ (mode : Mode). IsFilePlaced t file (file_spots mode (joint_of topology first) start file)) (sym sync)
    (file-placed t topology first start ground low file sound are room)

-- the maps of the files

file-back : (mode : Mode) (joint : List Layout) (start : ℕ) (file : File) → IsBackOn start (start + file_bits file) (file_spots mode joint start file).back
file-back mode joint start file = back-net (outline file) start

third-back : (mode : Mode) (joint : List Layout) (start : ℕ) (third : Option File) → IsBackOn start (start + third_bits third) (third_back (option_map (file_spots mode joint start) third))
third-back mode joint start None = back-none start (start + 0)
third-back mode joint start (Some file) = file-back mode joint start file

all-back : (first : ℕ) (problem : Problem) (third : Option File) → IsBackOn (first + joint_bits problem.topology) (first + problem_bits problem third) (all_back (frame_of first problem third))
all-back first problem third =
    let joint = joint_of problem.topology first in
    let mode = problem.topology.mode in
    let start = first + joint_bits problem.topology in
    let end : start + file_bits problem.f + file_bits problem.s + third_bits third ≡ first + problem_bits problem third = omega arith in
    subst (λ (high : ℕ). IsBackOn start high (all_back (frame_of first problem third))) end
    (back-append start (start + file_bits problem.f) (start + file_bits problem.f + file_bits problem.s + third_bits third) (file_spots mode joint start problem.f).back ((file_spots mode joint (start + file_bits problem.f) problem.s).back ++ third_back (option_map (file_spots mode joint (start + file_bits problem.f + file_bits problem.s)) third))
    (omega arith) (omega arith)
    (file-back mode joint start problem.f)
    (back-append (start + file_bits problem.f) (start + file_bits problem.f + file_bits problem.s) (start + file_bits problem.f + file_bits problem.s + third_bits third) (file_spots mode joint (start + file_bits problem.f) problem.s).back (third_back (option_map (file_spots mode joint (start + file_bits problem.f + file_bits problem.s)) third))
    (omega arith) (omega arith)
    (file-back mode joint (start + file_bits problem.f) problem.s)
    (third-back mode joint (start + file_bits problem.f + file_bits problem.s) third)))

pub fits : (t : Table) (first : ℕ) (problem : Problem) (third : Option File) → IsBuilt problem → IsThird problem third → first + problem_bits problem third ≤ t.levels → FitsProblem t problem third (frame_of first problem third)
fits t first problem third built good exist =
    let topology = problem.topology in
    let ground = grounds problem built in
    let start = first + joint_bits problem.topology in
    let back = all-back first problem third in
    record {
      first = first;
      is = refl;
      exist = exist;
      f = λ sync. placed-in t problem.topology first (first + joint_bits problem.topology) sync ground (omega arith) problem.f built.f_sound (files-joint problem built sync).0 (omega (arith, exist));
      s = λ sync. placed-in t problem.topology first (first + joint_bits problem.topology + file_bits problem.f) sync ground (omega arith) problem.s built.s_sound (files-joint problem built sync).1 (omega (arith, exist));
      third_placed = λ sync file spots is are.
          let level = first + joint_bits problem.topology + file_bits problem.f + file_bits problem.s in
          let made : file_spots problem.topology.mode (joint_of problem.topology first) (first + joint_bits problem.topology + file_bits problem.f + file_bits problem.s) file ≡ spots =
          same_Some (file_spots problem.topology.mode (joint_of problem.topology first) (first + joint_bits problem.topology + file_bits problem.f + file_bits problem.s) file) spots
          (ap (option_map (file_spots problem.topology.mode (joint_of problem.topology first) (first + joint_bits problem.topology + file_bits problem.f + file_bits problem.s))) (sym is) ∙ are) in
          let sound : IsSoundFile file = subst (λ (o : Option File). IfSome o IsSoundFile) is good.sound in
          let joint : AreJoint problem.topology.joint (file_letters file) = subst (λ (o : Option File). IfSome o (λ one. AreJoint problem.topology.joint (file_letters one))) is (good.joint sync) in
          let bits = ap third_bits is in
          subst (λ (codes : FileSpots). IsFilePlaced t file codes) made
          (placed-in t problem.topology first (first + joint_bits problem.topology + file_bits problem.f + file_bits problem.s) sync ground (omega arith) file sound joint (omega (arith, exist, bits)));
      rises = back.rises;
      apart = back.apart;
    }
