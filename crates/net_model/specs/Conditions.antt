use Rattle.std.specs.Prelude.{◌≡◌, ◌<◌, ◌≤◌, ℕ, List, [], ◌∷◌, ◌++◌, length, map, nat_eq, count_by, codes, All, Contains}
use Rattle.std.specs.List.{flat_map}
use Rattle.name_table.specs.ScopeVars.{variable_at}
use Rattle.net_model.specs.Nets.{Table, Net}
use Rattle.net_model.specs.Spellings.{domain_at}

-- What the signals, latches and resets of a network must be.

-- the signals that are driven, each as often as it is: by a primary input, by an output of a table, by a latch
abbrev pub drives : Net → List ℕ
drives net = net.inputs ++ (flat_map (λ table. table.outs) net.tables ++ map (λ latch. latch.output) net.latches)

abbrev pub times_driven : Net → ℕ → ℕ
times_driven net signal = count_by (nat_eq signal) (drives net)

abbrev pub columns_of : Table → List ℕ
columns_of table = table.ins ++ table.outs

-- the signals that are used: by the outputs, by a column of a table or a reset table, by a latch
abbrev pub uses : Net → List ℕ
uses net =
    net.outputs
    ++ (flat_map columns_of net.tables
    ++ (flat_map columns_of net.resets
    ++ flat_map (λ latch. latch.input ∷ latch.output ∷ []) net.latches))

abbrev pub latch_outputs : Net → List ℕ
latch_outputs net = map (λ latch. latch.output) net.latches

-- A signal is not constant where it is a primary input, a latch output, or an output of a table with an input that is not
-- constant.
pub data Varies (net : Net) : ℕ → Type 0 where
  varies_as_input : (signal : ℕ) → Contains net.inputs signal → Varies net signal
  varies_as_latch : (signal : ℕ) → Contains (latch_outputs net) signal → Varies net signal
  varies_by_table : (table : Table) (input signal : ℕ) → Contains net.tables table → Contains table.ins input → Contains table.outs signal → Varies net input → Varies net signal

abbrev pub IsConstant : Net → ℕ → Type 0
IsConstant net signal = Varies net signal → ⊥

-- a reset table sets latch outputs, by constant signals alone
pub record IsReset (net : Net) (table : Table) : Type 0 where
  pub inputs : All (IsConstant net) table.ins
  pub outputs : All (Contains (latch_outputs net)) table.outs

-- the outputs are exactly `Acc`
abbrev pub IsAutomaton : Net → ℕ → Type 0
IsAutomaton net signal = (net.outputs ≡ signal ∷ []) × ((variable_at net.names signal).name ≡ codes "Acc")

-- it has two values, and is the only output of a table whose inputs are all latch outputs
pub record HasAcceptance (net : Net) (signal : ℕ) : Type 0 where
  pub binary : length (domain_at net.names signal) ≡ 2
  pub table : Table
  pub held : Contains net.tables table
  pub only : table.outs ≡ signal ∷ []
  pub states : All (Contains (latch_outputs net)) table.ins

-- the network is an automaton as the format wants it: its only output is `Acc`, which has two values and is computed from
-- the state alone
abbrev pub IsAuto : Net → Type 0
IsAuto net = (signal : ℕ) × IsAutomaton net signal × HasAcceptance net signal

pub record MeetsConditions (net : Net) : Type 0 where
  -- no signal is driven twice, and each signal that is used is driven
  pub once : (signal : ℕ) → times_driven net signal ≤ 1
  pub driven : All (λ signal. 0 < times_driven net signal) (uses net)
  -- the two signals of a latch have as many values
  pub latches : All (λ latch. length (domain_at net.names latch.input) ≡ length (domain_at net.names latch.output)) net.latches
  -- each latch is reset once at most
  pub reset_once : (signal : ℕ) → count_by (nat_eq signal) (flat_map (λ table. table.outs) net.resets) ≤ 1
  pub resets : All (IsReset net) net.resets
  pub acceptance : (signal : ℕ) → IsAutomaton net signal → HasAcceptance net signal
