use Rattle.std.proofs.Common.{take, All}
use Rattle.net_conditions.specs.Accepted.{IsAcceptance}
use Rattle.net_conditions.proofs.acceptance.is_computed.Given as goal

abbrev pub invariant-loop-table : goal.invariant-loop-table
invariant-loop-table l = All (λ table. ¬ IsAcceptance l.states l.signal.0 table) (take l.table-index l.tables)
