use Rattle.std.proofs.Common.{◌≡◌, ◌++◌, length, map}
use Rattle.std.specs.List.{AllByRecursion, flat_map}
use Rattle.net_model.specs.Printed.{line_bytes, row_line}
use Rattle.aut_format.specs.Rows.{RisesFrom, row_along, rows_of_move}
use Rattle.aut_format.proofs.rows.push_move.Given as goal

abbrev pub decreases-loop-path : goal.decreases-loop-path
decreases-loop-path l = length l.paths

abbrev pub invariant-loop-path : goal.invariant-loop-path
invariant-loop-path l = record {
  rising : AllByRecursion (RisesFrom 0) l.paths;
  written : l.text.items ++ flat_map line_bytes (map (row_line l.coding.scope) (map (row_along l.coding l.present l.m.target) l.paths)) ≡ l.initial.text.items ++ flat_map line_bytes (map (row_line l.coding.scope) (rows_of_move l.space l.coding l.present l.m));
}
