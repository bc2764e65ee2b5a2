use Rattle.std.proofs.Common.{rules, append_assoc}
use Rattle.aut_format.proofs.Joins.{join-append}
use Rattle.aut_format.proofs.rows.push_row.Goals as goal

pub returns : goal.returns
returns c = rw join-append (search (rules, append_assoc))
