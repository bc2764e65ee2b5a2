use Rattle.net_model.specs.Nets.{net_of}
use Rattle.net_conditions.specs.Marks.{count_left}
use Rattle.net_conditions.specs.Rounds.{AreVarying}
use Rattle.net_conditions.proofs.varying.varying_signals.Given as goal

abbrev pub invariant-loop : goal.invariant-loop
invariant-loop l = AreVarying (net_of l.net) l.varying

abbrev pub decreases-loop : goal.decreases-loop
decreases-loop l = count_left l.varying
