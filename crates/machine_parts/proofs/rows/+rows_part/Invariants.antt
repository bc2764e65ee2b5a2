use Rattle.std.proofs.Common.{length}
use Rattle.machine_parts.proofs.rows.+rows_part.Given as goal

abbrev pub decreases-rows_part : goal.decreases-rows_part
decreases-rows_part l = length l.rows.now
