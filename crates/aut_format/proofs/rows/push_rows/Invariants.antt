use Rattle.std.proofs.Common.{◌≡◌, ◌++◌, drop, map}
use Rattle.std.specs.List.{flat_map}
use Rattle.net_model.specs.Printed.{line_bytes, row_line}
use Rattle.aut_format.specs.Rows.{rows_from}
use Rattle.aut_format.proofs.rows.push_rows.Given as goal

abbrev pub invariant-loop-state : goal.invariant-loop-state
invariant-loop-state l =
    l.text.items ++ flat_map line_bytes (map (row_line l.coding.scope) (rows_from l.space l.coding l.state (drop l.state l.det))) ≡ l.initial.text.items ++ flat_map line_bytes (map (row_line l.coding.scope) (rows_from l.space l.coding 0 l.det))
