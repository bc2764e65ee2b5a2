use Rattle.std.proofs.Common.{length}
use Rattle.table_parts.proofs.entries.+one_of.Given as goal

abbrev pub decreases-one_of : goal.decreases-one_of
decreases-one_of l = length l.values.now
