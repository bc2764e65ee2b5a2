use Rattle.std.proofs.Common.{length}
use Rattle.diagram_tests.proofs.walks.skip_all.Given as goal

abbrev pub decreases-loop : goal.decreases-loop
decreases-loop l = length l.paths
