use Rattle.std.proofs.Common.{◌≡◌, ◌+◌, ◌*◌, ◌≤◌}
use Rattle.node_table.specs.Table.{top_of, Grows}
use Rattle.subset_build.specs.Relations.{present_of, Reads}
use Rattle.bench_automata.specs.Registers.{latch_levels}
use Rattle.bench_automata.proofs.registers.all_zero.Given as goal

abbrev pub invariant-loop-latch : goal.invariant-loop-latch
invariant-loop-latch l = record {
  within : l.latch ≤ l.latches;
  reads : Reads l.space (present_of (latch_levels l.letters l.latches)) l.all;
  below : l.letters + 2 * l.latch ≤ top_of l.space l.all;
  grows : Grows l.initial.space l.space;
  levels : l.space.levels ≡ l.initial.space.levels;
}

abbrev pub decreases-loop-latch : goal.decreases-loop-latch
decreases-loop-latch l = l.latch
