use Rattle.std.proofs.Common.{◌≡◌, map, length}
use Rattle.blifmv_tables.specs.RowFaults.{is_unknown, some_entry, behind_entries}
use Rattle.blifmv_tables.proofs.rows.some_unknown.Given as goal

abbrev pub invariant-loop-left : goal.invariant-loop-left
invariant-loop-left l = record {
  some : some_entry (is_unknown l.names l.at_output) (map (λ v. v.0) l.left) l.entries ≡ some_entry (is_unknown l.names l.at_output) (map (λ v. v.0) l.columns) l.fn.entries;
  behind : behind_entries (map (λ v. v.0) l.left) l.entries ≡ behind_entries (map (λ v. v.0) l.columns) l.fn.entries;
}

abbrev pub decreases-loop-left : goal.decreases-loop-left
decreases-loop-left l = length l.left
