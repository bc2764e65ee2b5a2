use Rattle.std.proofs.Common.{◌≡◌, ◌++◌, map, take, drop}
use Rattle.det_core.proofs.Words.{flipped}
use Rattle.det_core.proofs.det.complement.Given as goal

abbrev pub invariant-loop-state : goal.invariant-loop-state
invariant-loop-state l = l.state-items ≡ map flipped (take l.state-index l.initial.state-items) ++ drop l.state-index l.initial.state-items
