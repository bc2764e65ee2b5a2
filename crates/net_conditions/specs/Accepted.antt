use Rattle.std.specs.Prelude.{◌≡◌, ℕ, Bool, not, ◌&&◌, List, [], ◌∷◌, All, IsTrue}
use Rattle.std.specs.List.{list_any, list_all}
use Rattle.net_model.specs.Nets.{table_of}
use Rattle.net_model.specs.declared.net.Table.{Table}
use Rattle.net_conditions.specs.Marks.{is_marked}

-- a table with this only output, and inputs from the set
abbrev pub IsAcceptance : List Bool → ℕ → Table → Type 0
IsAcceptance set signal table = ((table_of table).outs ≡ signal ∷ []) × All (λ input. IsTrue (is_marked set input)) (table_of table).ins

-- a table without inputs of the first set, and with outputs of the second
abbrev pub is_reset_by : List Bool → List Bool → Table → Bool
is_reset_by varying states table =
    not (list_any (λ v. is_marked varying v.0) table.ins.items) && list_all (λ v. is_marked states v.0) table.outs.items
