use Rattle.std.proofs.Common.{◌≡◌, ◌++◌, drop, map}
use Rattle.std.specs.List.{flat_map}
use Rattle.net_model.specs.Printed.{line_bytes, row_line}
use Rattle.aut_format.specs.Rows.{rows_of_moves}
use Rattle.aut_format.proofs.rows.push_moves.Given as goal

abbrev pub invariant-loop-m : goal.invariant-loop-m
invariant-loop-m l =
    l.text.items ++ flat_map line_bytes (map (row_line l.coding.scope) (rows_of_moves l.space l.coding l.present (drop l.m-index l.moves))) ≡ l.initial.text.items ++ flat_map line_bytes (map (row_line l.coding.scope) (rows_of_moves l.space l.coding l.present l.moves))
