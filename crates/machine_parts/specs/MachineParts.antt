-- The steps of a machine as a set of bits.
use Rattle.std.specs.Prelude.{◌≡◌, ◌&&◌, Bool, List, [], ◌∷◌, ◌++◌, length}
use Rattle.std.specs.List.{list_any}
use Rattle.name_table.specs.ScopeVars.{variable_at}
use Rattle.node_table.specs.Table.{Bits, Table}
use Rattle.mv_encoding.specs.Layouts.{Layout, number_of}
use Rattle.mv_encoding.specs.Spots.{AreSpots, AreLaid, spelled, spell_values, variables_at}
use Rattle.net_model.specs.Machines.{Machine, machine_letters, row_leads}

-- each spot spells a value, and some row leads from the present state to the next one by the letter
abbrev pub machine_value : List Layout → Layout → Layout → Machine → Bits → Bool
machine_value columns present next machine bits =
    spell_values (columns ++ present ∷ next ∷ []) bits
    && list_any (row_leads (number_of present 0 bits) (spelled columns bits) (number_of next 0 bits)) machine.rows

-- the codes are those of the machine's columns and of its states, and their levels exist
pub record IsMachineLaid (t : Table) (columns : List Layout) (present next : Layout) (machine : Machine) : Type 0 where
  pub spots : AreSpots (columns ++ present ∷ next ∷ [])
  pub laid : AreLaid t (columns ++ present ∷ next ∷ [])
  pub letters : variables_at columns ≡ machine_letters machine
  pub present_states : length (variable_at present.scope 0).values ≡ machine.states
  pub next_states : length (variable_at next.scope 0).values ≡ machine.states
