use Rattle.std.proofs.Common.{length}
use Rattle.table_parts.proofs.rows.+rows_allowing.Given as goal

abbrev pub decreases-rows_allowing : goal.decreases-rows_allowing
decreases-rows_allowing l = length l.rows.now
