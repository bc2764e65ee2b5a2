use Rattle.std.proofs.Common.{◌<◌, ℕ, All, get_or}
use Rattle.bdd_ops.specs.Meaning.{DependsOn}
use Rattle.mv_encoding.specs.Layouts.{levels_of}
use Rattle.det_core.specs.Automata.{State}
use Rattle.automata_tests.proofs.automata.reads_alone.Given as goal

abbrev pub invariant-loop-state : goal.invariant-loop-state
invariant-loop-state l = (k : ℕ) (d : State) → k < l.state → All (λ m. DependsOn l.space (levels_of l.letters) m.guard) (get_or l.det k d).moves
