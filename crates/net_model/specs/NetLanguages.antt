use Rattle.std.specs.Prelude.{◌≡◌, ℕ, Bool, true, false, not, List, [], ◌∷◌, ◌++◌, map, filter, if◌then◌else◌, slice_index, nat_eq, codes, All, Contains}
use Rattle.std.specs.Str.{bytes_eq}
use Rattle.std.specs.List.{list_any, list_all}
use Rattle.name_table.specs.ScopeVars.{variable_at, chosen_of}
use Rattle.net_model.specs.Words.{Scope, Letter, Language, IsLetter}
use Rattle.net_model.specs.Automata.{LanguageOf}
use Rattle.net_model.specs.Nets.{Table, Net}
use Rattle.net_model.specs.Tables.{values_at, table_holds}
use Rattle.net_model.specs.Conditions.{latch_outputs, IsConstant, IsAutomaton, IsAuto}
use Rattle.net_model.specs.NetTexts.{StandsForNet}

-- What a network means: the words of its runs. A state gives a value to each latch output, in the order of the latches. A
-- valuation gives one to each signal, by its place among the names.

-- the only one of these signals, and its name is `Acc`
abbrev pub is_acc : Scope → List ℕ → Bool
is_acc names [] = false
is_acc names (signal ∷ []) = bytes_eq (variable_at names signal).name (codes "Acc")
is_acc names (signal ∷ other ∷ signals) = false

-- the outputs are exactly `Acc`: the network is an automaton
abbrev pub is_automaton : Net → Bool
is_automaton net = is_acc net.names net.outputs

-- the outputs that are no inputs
abbrev pub other_outputs : Net → List ℕ
other_outputs net = filter (λ signal. not (list_any (nat_eq signal) net.inputs)) net.outputs

-- the letters: of an automaton its inputs, of any other network its inputs and then its outputs that are no inputs
abbrev pub letter_signals : Net → List ℕ
letter_signals net = if is_automaton net then net.inputs else net.inputs ++ other_outputs net

abbrev pub letters_of : Net → Scope
letters_of net = chosen_of net.names (letter_signals net)

abbrev pub latch_inputs : Net → List ℕ
latch_inputs net = map (λ latch. latch.input) net.latches

-- the variables whose values make a state
abbrev pub states_of : Net → Scope
states_of net = chosen_of net.names (latch_outputs net)

-- the table holds, where its outputs are constant
abbrev pub HoldsIfConstant : Net → List ℕ → Table → Type 0
HoldsIfConstant net valuation table = All (IsConstant net) table.outs → table_holds valuation table ≡ true

-- some valuation has the state, and meets every table of constant outputs and every reset table
pub record IsInitial (net : Net) (q : List ℕ) : Type 0 where
  pub valuation : List ℕ
  pub values : IsLetter net.names valuation
  pub state : values_at valuation (latch_outputs net) ≡ q
  pub tables : All (HoldsIfConstant net valuation) net.tables
  pub resets : list_all (table_holds valuation) net.resets ≡ true

-- some valuation has the state and the letter, meets every table, and has the next state at the latch inputs
pub record Steps (net : Net) (q : List ℕ) (a : Letter) (r : List ℕ) : Type 0 where
  pub valuation : List ℕ
  pub values : IsLetter net.names valuation
  pub state : values_at valuation (latch_outputs net) ≡ q
  pub letter : values_at valuation (letter_signals net) ≡ a
  pub tables : list_all (table_holds valuation) net.tables ≡ true
  pub next : values_at valuation (latch_inputs net) ≡ r

-- some valuation has the state and the value 1 for this signal, and meets the table of which it is the only output
pub record AcceptsBy (net : Net) (signal : ℕ) (q : List ℕ) : Type 0 where
  pub table : Table
  pub held : Contains net.tables table
  pub only : table.outs ≡ signal ∷ []
  pub valuation : List ℕ
  pub values : IsLetter net.names valuation
  pub state : values_at valuation (latch_outputs net) ≡ q
  pub accepts : slice_index valuation signal ≡ 1
  pub holds : table_holds valuation table ≡ true

-- a state of an automaton accepts by `Acc`, and every state of any other network accepts
abbrev pub IsAccepting : Net → List ℕ → Type 0
IsAccepting net q = (signal : ℕ) → IsAutomaton net signal → AcceptsBy net signal q

-- the words of its runs
abbrev pub NetWords : Net → Language
NetWords net = LanguageOf (IsInitial net) (Steps net) (IsAccepting net)

-- the bytes stand for a network that is an automaton and has these letters
pub record StandsForAutomaton (bytes : List ℕ) (scope : Scope) : Type 0 where
  pub net : Net
  pub stands : StandsForNet bytes net
  pub automaton : IsAuto net
  pub letters : letters_of net ≡ scope
