use Rattle.std.proofs.Common.{◌≡◌, ◌<◌, ℕ, length}
use Rattle.det_core.specs.Automata.{state_at}
use Rattle.bench_automata.proofs.subsets.have_targets.Given as goal

abbrev pub invariant-loop-state : goal.invariant-loop-state
invariant-loop-state l = (k : ℕ) → k < l.state → length (state_at l.det k).moves ≡ l.targets
