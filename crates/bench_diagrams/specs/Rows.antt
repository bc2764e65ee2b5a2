use Rattle.std.specs.Prelude.{ℕ, ◌≤◌}
use Rattle.node_table.specs.Table.{Table, IsValid, top_of}

-- the ref is valid, and its node doesn't stand above the level
pub record StandsAt (t : Table) (level r : ℕ) : Type 0 where
  pub valid : IsValid t r
  pub top : level ≤ top_of t r
