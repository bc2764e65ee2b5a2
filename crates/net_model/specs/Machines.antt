use Rattle.std.specs.Prelude.{◌≡◌, ◌<◌, ◌≤◌, ◌==◌, ◌&&◌, ℕ, Bool, true, false, List, [], ◌∷◌, ◌++◌, length, map, Option, Some, None, MatchOption}
use Rattle.std.specs.List.{AllByRecursion, list_any}
use Rattle.name_table.specs.Variables.{names_of, are_different, numbers}
use Rattle.net_model.specs.Words.{Variable, Scope, Letter, Language, IsLetter}
use Rattle.net_model.specs.Automata.{LanguageOf}
use Rattle.net_model.specs.Written.{IsTextName}
use Rattle.net_model.specs.declared.machine.Bit.{Bit}
use Rattle.net_model.specs.declared.machine.Bit.TheVariants.{Zero, One, Either}
use Rattle.net_model.specs.declared.machine.KissRow as declared_row
use Rattle.net_model.specs.declared.machine.Machine as declared_machine

-- A machine of KISS2 as plain data, and what it means.

-- patterns of the inputs and the outputs, and two states by their numbers; no state means every one
pub record KissRow : Type 0 where
  pub input : List Bit
  pub present : Option ℕ
  pub next : Option ℕ
  pub output : List Bit

-- its columns, how many states it has, the one in which it starts, and its rows
pub record Machine : Type 0 where
  pub inputs : Scope
  pub outputs : Scope
  pub states : ℕ
  pub reset : ℕ
  pub rows : List KissRow

-- the plain data of the types of the code
abbrev pub kiss_row_of : declared_row.KissRow → KissRow
kiss_row_of row = record { input = row.input.items; present = row.present; next = row.next; output = row.output.items }

abbrev pub machine_of : declared_machine.Machine → Machine
machine_of machine = record {
  inputs = machine.inputs;
  outputs = machine.outputs;
  states = machine.states;
  reset = machine.reset;
  rows = map kiss_row_of machine.rows.items;
}

-- its letters: the inputs, and then the outputs
abbrev pub machine_letters : Machine → Scope
machine_letters machine = machine.inputs ++ machine.outputs

abbrev pub bit_allows : Bit → ℕ → Bool
bit_allows Zero value = value == 0
bit_allows One value = value == 1
bit_allows Either value = true

-- a character for each value, which allows it
abbrev pub bits_allow : List Bit → List ℕ → Bool
bits_allow [] [] = true
bits_allow [] (value ∷ values) = false
bits_allow (bit ∷ bits) [] = false
bits_allow (bit ∷ bits) (value ∷ values) = bit_allows bit value && bits_allow bits values

-- the state of a row is this one, or every one
abbrev pub is_state : Option ℕ → ℕ → Bool
is_state None q = true
is_state (Some state) q = state == q

-- the row leads from p to q by the letter
abbrev pub row_leads : ℕ → Letter → ℕ → KissRow → Bool
row_leads p a q row = is_state row.present p && (is_state row.next q && bits_allow (row.input ++ row.output) a)

-- some row leads from a state to a state by the letter; where none does, there is no step
pub record MachineSteps (machine : Machine) (p : ℕ) (a : Letter) (q : ℕ) : Type 0 where
  pub present : p < machine.states
  pub letter : IsLetter (machine_letters machine) a
  pub next : q < machine.states
  pub row : list_any (row_leads p a q) machine.rows ≡ true

-- the words of its runs from the state in which it starts; every state accepts
abbrev pub MachineWords : Machine → Language
MachineWords machine = LanguageOf (λ q. q ≡ machine.reset) (MachineSteps machine) (λ q. Unit {0})

-- What holds of every machine that is read.

-- a column: its name can stand in a text, and its values are 0 and 1
pub record IsColumn (v : Variable) : Type 0 where
  pub name : IsTextName v.name
  pub values : v.values ≡ numbers 2

-- from one column up to 256
pub record AreColumns (columns : Scope) : Type 0 where
  pub each : AllByRecursion IsColumn columns
  pub some : 0 < length columns
  pub few : length columns ≤ 256

-- a number of one of these states, or none
abbrev pub IsKnownState : ℕ → Option ℕ → Type 0
IsKnownState states state = MatchOption state (Unit {0}) (λ q. q < states)

-- a character for each column, and states that the machine has
pub record IsKissRow (machine : Machine) (row : KissRow) : Type 0 where
  pub input : length row.input ≡ length machine.inputs
  pub present : IsKnownState machine.states row.present
  pub next : IsKnownState machine.states row.next
  pub output : length row.output ≡ length machine.outputs

-- its columns are different, its patterns have their widths, and its states are in range and not too many
pub record IsSoundMachine (machine : Machine) : Type 0 where
  pub inputs : AreColumns machine.inputs
  pub outputs : AreColumns machine.outputs
  pub different : are_different (names_of (machine_letters machine)) ≡ true
  pub reset : machine.reset < machine.states
  pub few : machine.states ≤ 65536
  pub rows : AllByRecursion (IsKissRow machine) machine.rows
