-- Moves made of pieces.
use Rattle.std.specs.Prelude.{◌≡◌, ◌<◌, ℕ, List, length, slice_index, slice_index_or}
use Rattle.bdd_walk.specs.declared.splits.Piece.{Piece}
use Rattle.det_core.specs.declared.det.Move.{Move}

-- the move has the bits of the piece, and leads to the number of what is left
pub record IsMoveOf (sets : List ℕ) (p : Piece) (m : Move) : Type 0 where
  pub guard : m.guard ≡ p.at
  pub within : m.target < length sets
  pub leads : slice_index sets m.target ≡ p.left

-- there is a move for each of the first pieces
pub record ArePlaced (sets : List ℕ) (pieces : List Piece) (count : ℕ) (moves : List Move) : Type 0 where
  pub len : length moves ≡ count
  pub each : (k : ℕ) (p : Piece) (m : Move) → k < count → IsMoveOf sets (slice_index_or pieces k p) (slice_index_or moves k m)
