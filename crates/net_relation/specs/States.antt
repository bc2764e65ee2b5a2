-- The parts from which the initial and the accepting states of a network are made.
use Rattle.std.specs.Prelude.{◌==◌, ℕ, Bool, not, List, [], ◌∷◌, ◌++◌, map, filter}
use Rattle.std.specs.List.{list_any}
use Rattle.node_table.specs.Table.{Bits}
use Rattle.mv_encoding.specs.Layouts.{number_of}
use Rattle.mv_encoding.specs.Spots.{spot_at}
use Rattle.table_parts.specs.TableParts.{part_value}
use Rattle.net_model.specs.Nets.{Table, Net}
use Rattle.net_conditions.specs.Marks.{is_marked}
use Rattle.net_frame.specs.Placing.{FileSpots}
use Rattle.net_relation.specs.Relations.{present_values}

-- the tables of which no output is marked
abbrev pub constant_tables : List Bool → List Table → List Table
constant_tables varying tables = filter (λ table. not (list_any (is_marked varying) table.outs)) tables

-- each table of constant outputs, each reset table, and that the present value of each latch is that of its output
abbrev pub initial_meanings : Net → FileSpots → List Bool → List (Bits → Bool)
initial_meanings net spots varying =
    (map (part_value spots.signals) (constant_tables varying net.tables) ++ map (part_value spots.signals) net.resets)
    ++ present_values spots.signals net.latches spots.present

-- the table, the value 1 of the signal, and the present values
abbrev pub accepting_meanings : Net → FileSpots → Table → ℕ → List (Bits → Bool)
accepting_meanings net spots table signal =
    (part_value spots.signals table ∷ (λ bits. number_of (spot_at spots.signals signal) 0 bits == 1) ∷ [])
    ++ present_values spots.signals net.latches spots.present
