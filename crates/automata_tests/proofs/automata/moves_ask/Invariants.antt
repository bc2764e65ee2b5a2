use Rattle.std.proofs.Common.{◌<◌, ℕ, get_or}
use Rattle.det_core.specs.declared.det.Move.{Move}
use Rattle.automata_tests.specs.Drawings.{AsksBetween}
use Rattle.automata_tests.proofs.automata.moves_ask.Given as goal

abbrev pub invariant-loop-m : goal.invariant-loop-m
invariant-loop-m l = (k : ℕ) (d : Move) → k < l.m-index → AsksBetween l.space 0 l.end (get_or l.moves k d).guard
