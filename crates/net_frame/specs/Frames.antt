-- Where the codes of a problem stand.
use Rattle.std.specs.Prelude.{◌≡◌, ◌≤◌, ℕ, ◌+◌, true, false, List, [], ◌∷◌, ◌++◌, length, map, if◌then◌else◌, unwrap_or, nat_eq, Option, Some, None, IfSome}
use Rattle.std.specs.Str.{bytes_eq}
use Rattle.std.specs.List.{list_any, flat_map, range_with_len, All}
use Rattle.std.specs.Option.{option_map}
use Rattle.name_table.specs.CodeBits.{bits_of, bits_in}
use Rattle.name_table.specs.ScopeVars.{variable_at}
use Rattle.node_table.specs.Table.{Table}
use Rattle.bdd_ops.specs.Levels.{is_in, sources, IsRisingMap}
use Rattle.mv_encoding.specs.Layouts.{Layout}
use Rattle.mv_encoding.specs.Sets.{layout_of}
use Rattle.mv_encoding.specs.Spots.{spot_of, spot_at}
use Rattle.net_model.specs.Words.{Scope, Variable}
use Rattle.net_model.specs.Nets.{Net}
use Rattle.net_model.specs.Conditions.{latch_outputs}
use Rattle.net_model.specs.NetLanguages.{letter_signals}
use Rattle.net_model.specs.Topologies.{is_named, variable_named}
use Rattle.net_model.specs.Equation.{Topology}
use Rattle.net_model.specs.Outlines.{outline}
use Rattle.net_model.specs.Problems.{File, Problem, file_letters, IsSoundFile}
use Rattle.net_model.specs.declared.class.Mode.{Mode}
use Rattle.net_model.specs.declared.class.Mode.TheVariants.{Sync, Parallel}
use Rattle.net_model.specs.declared.refusal.Slot.{Slot}
use Rattle.net_model.specs.declared.refusal.Slot.TheVariants.{F, S, X}
use Rattle.net_problem.specs.ProblemBits.{own_before, file_bits, joint_bits, problem_bits}
use Rattle.net_frame.specs.Placing.{FileSpots, targets, IsPlaced}

-- What is seen of a frame.
pub record Frame : Type 0 where
  pub mode : Mode
  pub x : Layout
  pub joint : List Layout
  pub f : FileSpots
  pub s : FileSpots
  pub third : Option FileSpots

-- X's variables that are joint variables; in parallel mode X's letter has a code of its own
abbrev pub shared_by : Mode → Scope → Scope
shared_by Sync x = x
shared_by Parallel x = []

abbrev pub shared_x : Topology → Scope
shared_x topology = shared_by topology.mode topology.x

-- the first level of X's variable of this name, where X's letter stands from `first` on
abbrev pub level_in : Scope → ℕ → List ℕ → ℕ
level_in [] first name = first
level_in (v ∷ x) first name = if bytes_eq v.name name then first else level_in x (first + bits_of v) name

-- a joint variable of X stands where it stands in X's letter, and any other one from `next` on
abbrev pub joint_spot : Scope → ℕ → ℕ → Variable → Layout
joint_spot x first next v = if is_named x v.name then spot_of v (level_in x first v.name) else spot_of v next

-- the bits that a joint variable adds to X's
abbrev pub added : Scope → Variable → ℕ
added x v = if is_named x v.name then 0 else bits_of v

-- the spots of joint variables: those that are not X's stand one after another
abbrev pub joint_spots : Scope → ℕ → ℕ → Scope → List Layout
joint_spots x first next [] = []
joint_spots x first next (v ∷ joint) = joint_spot x first next v ∷ joint_spots x first (next + added x v) joint

-- the spot of the variable of this name
abbrev pub spot_named : List Layout → List ℕ → Layout
spot_named [] name = record { scope = []; first = 0 }
spot_named (spot ∷ spots) name = if bytes_eq (variable_at spot.scope 0).name name then spot else spot_named spots name

-- the spot of a letter of a file; in parallel mode there is one joint variable
abbrev pub letter_spot : Mode → List Layout → List ℕ → Layout
letter_spot Sync joint name = spot_named joint name
letter_spot Parallel joint name = spot_at joint 0

-- The levels that a file has for itself go by the order of its names, so that signals which are named together stand near
-- one another: here begin those of a signal.
abbrev pub own_level : Net → ℕ → ℕ → ℕ
own_level net start signal = start + bits_in (own_before net signal)

abbrev pub own_spot : Net → ℕ → ℕ → Layout
own_spot net start signal = spot_of (variable_at net.names signal) (own_level net start signal)

-- the next value of a latch stands right behind its present one
abbrev pub next_spot : Net → ℕ → ℕ → Layout
next_spot net start output = spot_of (variable_at net.names output) (own_level net start output + bits_of (variable_at net.names output))

abbrev pub signal_spot : Mode → List Layout → Net → ℕ → ℕ → Layout
signal_spot mode joint net start signal =
    if list_any (nat_eq signal) (letter_signals net) then letter_spot mode joint (variable_at net.names signal).name
    else own_spot net start signal

-- from the levels of a latch's next value to those of its present one, which begin here
abbrev pub back_at : Variable → ℕ → List (ℕ × ℕ)
back_at v level = map (λ k. (level + bits_of v + k, level + k)) (range_with_len 0 (bits_of v))

abbrev pub latch_back : Net → ℕ → ℕ → List (ℕ × ℕ)
latch_back net start output = back_at (variable_at net.names output) (own_level net start output)

abbrev pub back_from : Net → ℕ → ℕ → List (ℕ × ℕ)
back_from net start signal = if list_any (nat_eq signal) (latch_outputs net) then latch_back net start signal else []

-- the spots of a file whose own levels begin here
abbrev pub net_spots : Mode → List Layout → ℕ → Net → FileSpots
net_spots mode joint start net = record {
  letters = map (signal_spot mode joint net start) (letter_signals net);
  signals = map (signal_spot mode joint net start) (range_with_len 0 (length net.names));
  present = map (own_spot net start) (latch_outputs net);
  next = map (next_spot net start) (latch_outputs net);
  back = flat_map (back_from net start) (range_with_len 0 (length net.names));
}

abbrev pub file_spots : Mode → List Layout → ℕ → File → FileSpots
file_spots mode joint start file = net_spots mode joint start (outline file)

-- the spots of all joint variables, where X's letter stands from `first` on
abbrev pub joint_of : Topology → ℕ → List Layout
joint_of topology first = joint_spots (shared_x topology) first (first + bits_in topology.x) topology.joint

-- The frame of a problem on the levels from `first` on: X's variables, the other joint variables, and then what F, S and the
-- third file have for themselves.
abbrev pub frame_of : ℕ → Problem → Option File → Frame
frame_of first problem third = record {
  mode = problem.topology.mode;
  x = record { scope = problem.topology.x; first = first };
  joint = joint_of problem.topology first;
  f = file_spots problem.topology.mode (joint_of problem.topology first) (first + joint_bits problem.topology) problem.f;
  s = file_spots problem.topology.mode (joint_of problem.topology first) (first + joint_bits problem.topology + file_bits problem.f) problem.s;
  third = option_map (file_spots problem.topology.mode (joint_of problem.topology first) (first + joint_bits problem.topology + file_bits problem.f + file_bits problem.s)) third;
}

abbrev pub third_back : Option FileSpots → List (ℕ × ℕ)
third_back None = []
third_back (Some spots) = spots.back

-- in a frame without a third file X's slot has X's letters: one by one in synchronous mode, and else the joint ones
abbrev pub bare_letters : Mode → Layout → List Layout → List Layout
bare_letters Sync x joint = map (layout_of x) (range_with_len 0 (length x.scope))
bare_letters Parallel x joint = joint

abbrev pub bare_spots : Mode → Layout → List Layout → FileSpots
bare_spots mode x joint = record { letters = bare_letters mode x joint; signals = []; present = []; next = []; back = [] }

-- the spots of the file in a slot; X is the third file
abbrev pub spots_in : Frame → Slot → FileSpots
spots_in frame F = frame.f
spots_in frame S = frame.s
spots_in frame X = unwrap_or frame.third (bare_spots frame.mode frame.x frame.joint)

-- from the levels of all next values to those of the present ones, file by file
abbrev pub all_back : Frame → List (ℕ × ℕ)
all_back frame = frame.f.back ++ (frame.s.back ++ third_back frame.third)

-- the letters of a third file are joint variables
abbrev pub AreJoint : Scope → Scope → Type 0
AreJoint joint letters = All (λ v. (is_named joint v.name ≡ true) × (variable_named joint v.name ≡ v)) letters

-- What a third file of a problem is: sound, and in synchronous mode its letters are joint variables.
pub record IsThird (problem : Problem) (third : Option File) : Type 0 where
  pub sound : IfSome third IsSoundFile
  pub joint : problem.topology.mode ≡ Sync → IfSome third (λ file. AreJoint problem.topology.joint (file_letters file))

-- the codes of a file in synchronous mode
abbrev pub IsFilePlaced : Table → File → FileSpots → Type 0
IsFilePlaced t file spots = IsPlaced t (outline file) spots

-- The frame is that of the problem and the third file, on levels of the Space.
pub record FitsProblem (t : Table) (problem : Problem) (third : Option File) (frame : Frame) : Type 0 where
  pub first : ℕ
  pub is : frame ≡ frame_of first problem third
  pub exist : first + problem_bits problem third ≤ t.levels
  pub f : problem.topology.mode ≡ Sync → IsFilePlaced t problem.f frame.f
  pub s : problem.topology.mode ≡ Sync → IsFilePlaced t problem.s frame.s
  pub third_placed : problem.topology.mode ≡ Sync → (file : File) (spots : FileSpots) → third ≡ Some file → frame.third ≡ Some spots → IsFilePlaced t file spots
  pub rises : IsRisingMap (all_back frame)
  pub apart : (k : ℕ) → is_in (sources (all_back frame)) k ≡ true → is_in (targets (all_back frame)) k ≡ false
