use Rattle.std.specs.Prelude.{◌≡◌, ◌≤◌, ℕ, List, [], ◌∷◌, ◌++◌, length, nat_eq, count_by}
use Rattle.std.specs.List.{range_with_len}
use Rattle.name_table.specs.Variables.{numbers}
use Rattle.net_model.specs.Words.{Variable}
use Rattle.net_model.specs.Nets.{Net}
use Rattle.net_model.specs.Conditions.{times_driven}
use Rattle.net_model.specs.SoundNets.{HasKnownSignals}
use Rattle.net_model.specs.Machines.{Machine, machine_letters}
use Rattle.net_model.specs.Files.{File, NetFile, MachineFile}

-- What levels are given to: the signals of a network and its latches. A machine has levels for its columns and its state.

-- the state of a machine as a variable, which has no name
abbrev pub state_variable : ℕ → Variable
state_variable states = record { name = []; values = numbers states }

-- the machine as signals: its columns are inputs, and its state is the value of a latch; it has no tables
abbrev pub outline_of : Machine → Net
outline_of machine = record {
  names = machine_letters machine ++ state_variable machine.states ∷ [];
  inputs = range_with_len 0 (length (machine_letters machine));
  outputs = [];
  tables = [];
  latches = record { input = length (machine_letters machine); output = length (machine_letters machine) } ∷ [];
  resets = [];
}

abbrev pub outline : File → Net
outline (NetFile net) = net
outline (MachineFile machine) = outline_of machine

-- each signal has a name, and none is driven twice: all that levels ask of a network
pub record IsWired (net : Net) : Type 0 where
  pub known : HasKnownSignals net
  pub outputs_once : (signal : ℕ) → count_by (nat_eq signal) net.outputs ≤ 1
  pub once : (signal : ℕ) → times_driven net signal ≤ 1
