use Rattle.std.proofs.Common.{◌≤◌, length}
use Rattle.part_relation.specs.Supports.{AreOfTurn}
use Rattle.part_relation.proofs.scheduling.levels_at.Given as goal

abbrev pub invariant-loop-level : goal.invariant-loop-level
invariant-loop-level l = record { few : length l.levels.items ≤ l.level; named : AreOfTurn l.turns l.kept l.turn l.level l.levels.items }
