use Rattle.std.specs.Prelude.{◌≡◌, ◌==◌, ◌&&◌, ℕ, Bool, false, List, length}
use Rattle.net_model.specs.Words.{Scope, Language}
use Rattle.net_model.specs.Nets.{Net, net_of}
use Rattle.net_model.specs.NetLanguages.{is_automaton, letters_of, NetWords}
use Rattle.net_model.specs.NetTexts.{StandsForNet}
use Rattle.net_model.specs.SoundNets.{IsSound}
use Rattle.net_model.specs.Machines.{Machine, machine_of, machine_letters, MachineWords, IsSoundMachine}
use Rattle.net_model.specs.KissTexts.{StandsForMachine}
use Rattle.net_model.specs.declared.file.File as declared_file
use Rattle.net_model.specs.declared.file.File.TheVariants as files

-- What a file holds, and what it means. The first word of its bytes tells whether they can stand for a network or for a
-- machine.

-- what a file holds, as plain data
pub data File : Type 0 where
  NetFile : Net → File
  MachineFile : Machine → File

abbrev pub file_of : declared_file.File → File
file_of (files.Net net) = NetFile (net_of net)
file_of (files.Machine machine) = MachineFile (machine_of machine)

abbrev pub IsSoundFile : File → Type 0
IsSoundFile (NetFile net) = IsSound net
IsSoundFile (MachineFile machine) = IsSoundMachine machine

abbrev pub file_letters : File → Scope
file_letters (NetFile net) = letters_of net
file_letters (MachineFile machine) = machine_letters machine

-- an automaton whose letters are the values of one variable: a file of parallel mode
abbrev pub has_one_variable : File → Bool
has_one_variable (NetFile net) = is_automaton net && (length net.inputs == 1)
has_one_variable (MachineFile machine) = false

abbrev pub FileWords : File → Language
FileWords (NetFile net) = NetWords net
FileWords (MachineFile machine) = MachineWords machine

abbrev pub StandsForFile : List ℕ → File → Type 0
StandsForFile bytes (NetFile net) = StandsForNet bytes net
StandsForFile bytes (MachineFile machine) = StandsForMachine bytes machine

-- what a file means: its bytes stand for a network or a machine with these letters that has the word
abbrev pub Means : List ℕ → Scope → Language
Means bytes scope word = (file : File) × StandsForFile bytes file × (file_letters file ≡ scope) × FileWords file word
