-- How the levels of a frame lie: those of letters above those that files have for themselves.
use Rattle.std.specs.Prelude.{◌≡◌, ◌<◌, ◌≤◌, ◌⊎◌, ℕ, true}
use Rattle.node_table.specs.Table.{Table}
use Rattle.bdd_ops.specs.Levels.{is_in}
use Rattle.mv_encoding.specs.Layouts.{levels_of}
use Rattle.mv_encoding.specs.Spots.{all_levels}
use Rattle.net_frame.specs.Placing.{FileSpots}
use Rattle.net_frame.specs.Frames.{Frame}

-- The letters of a file lie above this level, and what it has for itself from it on.
pub record LiesAround (t : Table) (start : ℕ) (spots : FileSpots) : Type 0 where
  pub letters : (k : ℕ) → is_in (all_levels spots.letters) k ≡ true → k < start
  pub signals : (k : ℕ) → is_in (all_levels spots.signals) k ≡ true → (is_in (all_levels spots.letters) k ≡ true) ⊎ (start ≤ k)
  pub present : (k : ℕ) → is_in (all_levels spots.present) k ≡ true → (start ≤ k) × (k < t.levels)
  pub next : (k : ℕ) → is_in (all_levels spots.next) k ≡ true → (start ≤ k) × (k < t.levels)

-- One level parts the letters of X, F and S from what F and S have for themselves.
pub record AreInOrder (t : Table) (frame : Frame) : Type 0 where
  pub start : ℕ
  pub within : start ≤ t.levels
  pub x : (k : ℕ) → is_in (levels_of frame.x) k ≡ true → k < start
  pub f : LiesAround t start frame.f
  pub s : LiesAround t start frame.s
