use Rattle.std.proofs.Common.{◌≡◌, ℕ, Some, nat_eq, take}
use Rattle.indexmap.specs.IndexMap.{get}
use Rattle.bdd_walk.specs.declared.joins.Ends.{Ends}
use Rattle.bdd_walk.specs.Splitting.{guard_of, lo_end, hi_end}
use Rattle.bdd_walk.proofs.joins.low_ends.Given as goal

abbrev pub invariant-loop-piece : goal.invariant-loop-piece
invariant-loop-piece l = record {
  lo : (r : ℕ) → lo_end l.ends.entries r ≡ guard_of (take l.piece-index l.lo) r;
  hi : (r : ℕ) → hi_end l.ends.entries r ≡ 0;
  some : (r : ℕ) (e : Ends) → get nat_eq l.ends r ≡ Some e → e.lo ≡ 0 → ⊥;
}
