use Rattle.std.proofs.Common.{◌-◌}
use Rattle.det_core.proofs.encoding.+steps_between.Given as goal

abbrev pub decreases-steps_between : goal.decreases-steps_between
decreases-steps_between l = l.end - l.start
