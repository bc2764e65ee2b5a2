-- The relation of a network or a machine, part by part.
use Rattle.std.specs.Prelude.{◌≡◌, ◌==◌, ◌<◌, ◌&&◌, ℕ, Bool, true, List, [], ◌∷◌, ◌++◌, length, map, slice_index_or, All}
use Rattle.name_table.specs.CodeBits.{bits_in}
use Rattle.node_table.specs.Table.{Bits, Table}
use Rattle.bdd_ops.specs.Meaning.{StandsFor}
use Rattle.mv_encoding.specs.Layouts.{Layout, number_of, numbers_of, is_letter, IsLaid}
use Rattle.mv_encoding.specs.Spots.{IsSpot, all_levels, spelled, spell_values, spot_at}
use Rattle.part_relation.specs.Steps.{StepCode, StandsForSteps}
use Rattle.table_parts.specs.TableParts.{part_value}
use Rattle.net_model.specs.Words.{Letter}
use Rattle.net_model.specs.Nets.{Latch, Net}
use Rattle.net_model.specs.NetLanguages.{IsInitial, Steps, IsAccepting}
use Rattle.net_model.specs.Machines.{Machine, MachineSteps}
use Rattle.net_model.specs.Problems.{File, NetFile, MachineFile}
use Rattle.machine_parts.specs.MachineParts.{machine_value}
use Rattle.net_frame.specs.Placing.{FileSpots}

-- what the bits spell of a step of the network
abbrev pub step_code : FileSpots → StepCode (List ℕ) Letter
step_code spots = record {
  present = spelled spots.present;
  letter = spelled spots.letters;
  next = spelled spots.next;
  levels = all_levels spots.present ++ (all_levels spots.letters ++ all_levels spots.next);
}

abbrev pub spells_value : Layout → Bits → Bool
spells_value spot bits = is_letter spot.scope (numbers_of spot bits)

-- the two spots spell one number
abbrev pub are_alike : Layout → Layout → Bits → Bool
are_alike a b bits = number_of a 0 bits == number_of b 0 bits

-- the spot spells the value of this signal
abbrev pub has_value_of : List Layout → Layout → ℕ → Bits → Bool
has_value_of signals spot signal bits = spells_value (spot_at signals signal) bits && are_alike spot (spot_at signals signal) bits

-- the present value of the latch is that of its output, and its next value that of its input
abbrev pub latch_value : List Layout → Latch → Layout → Layout → Bits → Bool
latch_value signals latch present next bits = has_value_of signals present latch.output bits && has_value_of signals next latch.input bits

-- the same of each latch
abbrev pub latch_values : List Layout → List Latch → List Layout → List Layout → List (Bits → Bool)
latch_values signals [] present next = []
latch_values signals (latch ∷ latches) [] next = []
latch_values signals (latch ∷ latches) (p ∷ present) [] = []
latch_values signals (latch ∷ latches) (p ∷ present) (n ∷ next) = latch_value signals latch p n ∷ latch_values signals latches present next

-- the present value of each latch is that of its output
abbrev pub present_values : List Layout → List Latch → List Layout → List (Bits → Bool)
present_values signals [] present = []
present_values signals (latch ∷ latches) [] = []
present_values signals (latch ∷ latches) (p ∷ present) = has_value_of signals p latch.output ∷ present_values signals latches present

-- what the parts of the relation say: the tables in their order, the latches in theirs, and at last that the letters are letters
abbrev pub part_meanings : Net → FileSpots → List (Bits → Bool)
part_meanings net spots =
    (map (part_value spots.signals) net.tables ++ latch_values spots.signals net.latches spots.present spots.next)
    ++ spell_values spots.letters ∷ []

-- each ref stands for the meaning in its place
abbrev pub AreFor : Table → List ℕ → List (Bits → Bool) → Type 0
AreFor t [] [] = Unit {0}
AreFor t [] (m ∷ meanings) = ⊥
AreFor t (r ∷ refs) [] = ⊥
AreFor t (r ∷ refs) (m ∷ meanings) = StandsFor t r m × AreFor t refs meanings

-- all meanings hold
abbrev pub all_mean : List (Bits → Bool) → Bits → Bool
all_mean [] bits = true
all_mean (m ∷ meanings) bits = m bits && all_mean meanings bits

-- the two spots can spell one number: each has one variable, they have as many bits, and their levels are there
pub record CanAgree (t : Table) (a b : Layout) : Type 0 where
  pub a_spot : IsSpot a
  pub b_spot : IsSpot b
  pub bits : bits_in a.scope ≡ bits_in b.scope
  pub a_laid : IsLaid a t
  pub b_laid : IsLaid b t

-- the spots of present values, latch by latch
pub record ArePresentAt (t : Table) (signals : List Layout) (latches : List Latch) (present : List Layout) : Type 0 where
  pub len : length present ≡ length latches
  pub known : All (λ latch. latch.output < length signals) latches
  pub agree : (k : ℕ) (d : Latch) → k < length latches → CanAgree t (spot_at present k) (spot_at signals (slice_index_or latches k d).output)

-- and those of next values besides
pub record AreLatchesAt (t : Table) (signals : List Layout) (latches : List Latch) (present next : List Layout) : Type 0 where
  pub present_at : ArePresentAt t signals latches present
  pub len : length next ≡ length latches
  pub known : All (λ latch. (latch.input < length signals) × (latch.output < length signals)) latches
  pub agree : (k : ℕ) (d : Latch) → k < length latches → CanAgree t (spot_at next k) (spot_at signals (slice_index_or latches k d).input)

-- the parts of a file's relation
abbrev pub file_meanings : File → FileSpots → List (Bits → Bool)
file_meanings (NetFile net) spots = part_meanings net spots
file_meanings (MachineFile machine) spots = machine_value spots.letters (spot_at spots.present 0) (spot_at spots.next 0) machine ∷ []

-- a step of a machine from the state that a number is to the state that a number is
pub record MovesOf (machine : Machine) (q : List ℕ) (a : Letter) (r : List ℕ) : Type 0 where
  pub from : ℕ
  pub to : ℕ
  pub from_is : q ≡ from ∷ []
  pub to_is : r ≡ to ∷ []
  pub step : MachineSteps machine from a to

abbrev pub StepsOf : File → List ℕ → Letter → List ℕ → Type 0
StepsOf (NetFile net) = Steps net
StepsOf (MachineFile machine) = MovesOf machine

-- the parts stand for the steps of the file
abbrev pub StandsForFileSteps : Table → List ℕ → FileSpots → File → Type 0
StandsForFileSteps t parts spots file = StandsForSteps t parts (step_code spots) (StepsOf file)

abbrev pub IsInitialOf : File → List ℕ → Type 0
IsInitialOf (NetFile net) = IsInitial net
IsInitialOf (MachineFile machine) = λ q. q ≡ machine.reset ∷ []

abbrev pub IsAcceptingOf : File → List ℕ → Type 0
IsAcceptingOf (NetFile net) = IsAccepting net
IsAcceptingOf (MachineFile machine) = λ q. Unit {0}
