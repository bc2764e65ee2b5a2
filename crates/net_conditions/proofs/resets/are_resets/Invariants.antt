use Rattle.std.proofs.Common.{map, take, All}
use Rattle.net_model.specs.Conditions.{IsReset}
use Rattle.net_model.specs.Nets.{table_of, net_of}
use Rattle.net_conditions.proofs.resets.are_resets.Given as goal

abbrev pub invariant-loop-table : goal.invariant-loop-table
invariant-loop-table l = All (IsReset (net_of l.net)) (map table_of (take l.table-index l.net.resets.items))
