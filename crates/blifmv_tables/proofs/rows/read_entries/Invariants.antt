use Rattle.std.proofs.Common.{◌≡◌, ◌++◌, map, drop}
use Rattle.net_model.specs.Nets.{entry_of}
use Rattle.net_model.specs.Spellings.{entries_at, as_taken}
use Rattle.blifmv_tables.specs.Reading.{entry_in}
use Rattle.blifmv_tables.proofs.rows.read_entries.Given as goal

abbrev pub invariant-loop-column : goal.invariant-loop-column
invariant-loop-column l =
    as_taken (λ more. map entry_of l.read.items ++ more) (entries_at (entry_in l.names l.side) (map (λ v. v.0) (drop l.column-index l.columns)) l.entries)
    ≡ entries_at (entry_in l.names l.side) (map (λ v. v.0) l.columns) l.fn.entries
