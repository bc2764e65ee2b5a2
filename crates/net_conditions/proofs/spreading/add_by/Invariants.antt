use Rattle.net_model.specs.Nets.{net_of}
use Rattle.net_conditions.specs.Rounds.{AreVarying}
use Rattle.net_conditions.proofs.spreading.add_by.Given as goal

abbrev pub invariant-loop-place : goal.invariant-loop-place
invariant-loop-place l = AreVarying (net_of l.net) l.varying
