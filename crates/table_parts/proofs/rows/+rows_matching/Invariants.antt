use Rattle.std.proofs.Common.{length}
use Rattle.table_parts.proofs.rows.+rows_matching.Given as goal

abbrev pub decreases-rows_matching : goal.decreases-rows_matching
decreases-rows_matching l = length l.rows.now
