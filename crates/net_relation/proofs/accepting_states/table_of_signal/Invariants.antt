use Rattle.std.proofs.Common.{◌≡◌, ◌<◌, ℕ, false, get_or}
use Rattle.net_model.specs.Accepted.{is_only}
use Rattle.net_model.specs.Nets.{table_of}
use Rattle.net_model.specs.declared.net.Table as declared
use Rattle.net_relation.proofs.accepting_states.table_of_signal.Given as goal

abbrev pub invariant-loop-table : goal.invariant-loop-table
invariant-loop-table l = (k : ℕ) (d : declared.Table) → k < l.table-index → is_only (table_of (get_or l.net.tables.items k d)).outs l.signal.0 ≡ false
