use Rattle.std.specs.Prelude.{◌≡◌, ℕ, Bool, if◌then◌else◌, List, [], ◌++◌, length, All, IsTrue}
use Rattle.std.specs.List.{list_any}
use Rattle.net_model.specs.Nets.{Table, Net}
use Rattle.net_model.specs.Conditions.{latch_outputs, Varies}
use Rattle.net_conditions.specs.Marks.{is_marked}

-- Rounds over the tables that add to a set what varies by them.

-- a set of signals that aren't constant, among them the inputs and the latch outputs
pub record AreVarying (net : Net) (set : List Bool) : Type 0 where
  pub len : length set ≡ length net.names
  pub sources : All (λ signal. IsTrue (is_marked set signal)) (net.inputs ++ latch_outputs net)
  pub sound : (signal : ℕ) → IsTrue (is_marked set signal) → Varies net signal

-- the outputs of a table, where the set has one of its inputs
abbrev pub outputs_by : List Bool → Table → List ℕ
outputs_by set table = if list_any (is_marked set) table.ins then table.outs else []

-- the set has the outputs of each table of which it has an input
abbrev pub IsClosed : List Table → List Bool → Type 0
IsClosed tables set = All (λ table. All (λ signal. IsTrue (is_marked set signal)) (outputs_by set table)) tables
