use Rattle.std.proofs.Common.{◌≡◌, ◌++◌, map, take}
use Rattle.std.specs.List.{flat_map}
use Rattle.net_model.specs.Nets.{table_of}
use Rattle.net_conditions.proofs.signal_lists.push_outputs.Given as goal

abbrev pub invariant-loop-table : goal.invariant-loop-table
invariant-loop-table l =
    map (λ v. v.0) l.signals.items
    ≡ map (λ v. v.0) l.fn.signals.items ++ flat_map (λ table. table.outs) (map table_of (take l.table-index l.tables))
