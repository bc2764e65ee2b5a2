use Rattle.std.proofs.Common.{length}
use Rattle.det_core.proofs.encoding.+leads.Given as goal

abbrev pub decreases-leads : goal.decreases-leads
decreases-leads l = length l.moves.now
