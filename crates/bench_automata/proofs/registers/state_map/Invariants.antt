use Rattle.std.proofs.Common.{◌≡◌}
use Rattle.bench_automata.specs.Registers.{latch_levels}
use Rattle.bench_automata.proofs.registers.state_map.Given as goal

abbrev pub invariant-loop-latch : goal.invariant-loop-latch
invariant-loop-latch l = l.pairs.items ≡ latch_levels l.letters l.latch
