-- How many rows there are, without their text.
use Rattle.std.specs.Prelude.{◌-◌, ◌^◌, ℕ, List, min}
use Rattle.std.specs.List.{flat_map}
use Rattle.node_table.specs.Table.{Table}
use Rattle.bdd_walk.specs.Paths.{Path, paths_of}
use Rattle.det_core.specs.declared.det.Move.{Move}

-- the number, and the greatest value of 64 bits where it is greater
abbrev pub at_most_64_bits : ℕ → ℕ
at_most_64_bits n = min n (2 ^ 64 - 1)

-- the paths of the guards of these moves
abbrev pub paths_of_moves : Table → List Move → List Path
paths_of_moves t moves = flat_map (λ m. paths_of t.nodes m.guard) moves
