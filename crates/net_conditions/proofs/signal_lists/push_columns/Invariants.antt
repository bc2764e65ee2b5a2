use Rattle.std.proofs.Common.{◌≡◌, ◌++◌, map, take}
use Rattle.std.specs.List.{flat_map}
use Rattle.net_model.specs.Conditions.{columns_of}
use Rattle.net_model.specs.Nets.{table_of}
use Rattle.net_conditions.proofs.signal_lists.push_columns.Given as goal

abbrev pub invariant-loop-table : goal.invariant-loop-table
invariant-loop-table l =
    map (λ v. v.0) l.signals.items
    ≡ map (λ v. v.0) l.fn.signals.items ++ flat_map columns_of (map table_of (take l.table-index l.tables))
