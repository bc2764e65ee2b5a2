use Rattle.std.proofs.Common.{◌≡◌, drop, map}
use Rattle.std.specs.List.{list_any}
use Rattle.net_model.specs.Accepted.{computes}
use Rattle.net_model.specs.Conditions.{latch_outputs}
use Rattle.net_model.specs.Nets.{table_of, net_of}
use Rattle.net_model.proofs.automaton.is_computed.Given as goal

abbrev pub invariant-loop-table : goal.invariant-loop-table
invariant-loop-table l =
    list_any (computes (latch_outputs (net_of l.net)) l.signal.0) (map table_of (drop l.table-index l.net.tables.items))
    ≡ list_any (computes (latch_outputs (net_of l.net)) l.signal.0) (net_of l.net).tables
