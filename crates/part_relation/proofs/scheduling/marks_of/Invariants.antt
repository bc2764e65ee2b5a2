use Rattle.std.proofs.Common.{◌≡◌, ℕ, length, take}
use Rattle.bdd_ops.specs.Levels.{is_in}
use Rattle.part_relation.specs.Supports.{is_marked}
use Rattle.part_relation.proofs.scheduling.marks_of.Given as goal

abbrev pub invariant-loop-k : goal.invariant-loop-k
invariant-loop-k l = record { len : length l.marks.items ≡ l.space.levels; marks : (level : ℕ) → is_marked l.marks.items level ≡ is_in (take l.k l.levels) level }
