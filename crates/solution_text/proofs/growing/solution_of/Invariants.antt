use Rattle.std.proofs.Common.{◌≤◌, ◌-◌, ◌^◌}
use Rattle.solution_text.proofs.growing.solution_of.Given as goal

abbrev pub decreases-loop-limit : goal.decreases-loop-limit
decreases-loop-limit l = 2 ^ 64 - l.limit

abbrev pub invariant-loop-limit : goal.invariant-loop-limit
invariant-loop-limit l = 1 ≤ l.limit
