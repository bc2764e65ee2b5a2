use Rattle.net_model.specs.Nets.{net_of}
use Rattle.net_conditions.specs.Rounds.{AreVarying}
use Rattle.net_conditions.proofs.spreading.spread.Given as goal

abbrev pub invariant-loop-at : goal.invariant-loop-at
invariant-loop-at l = AreVarying (net_of l.net) l.varying
