use Rattle.std.proofs.Common.{map}
use Rattle.net_model.specs.Nets.{entry_of}
use Rattle.blifmv_tables.specs.Reading.{entry_in}
use Rattle.blifmv_tables.proofs.Read.{no_entries}
use Rattle.blifmv_tables.proofs.rows.read_entries.Goals as goal

pub returns-in_default : goal.returns-in_default
returns-in_default c =
    no_entries (entry_in c.args.names.now c.args.side) c.args.columns.now c.loop-column.column-index c.loop-column.entries (map entry_of c.loop-column.read.items) _
    c.loop-column-test.true c.in_default.ensures.entry c.loop-column.invariant
