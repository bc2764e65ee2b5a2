-- A file as diagrams.
use Rattle.std.specs.Prelude.{ℕ, List, ◌++◌}
use Rattle.node_table.specs.Table.{Table}
use Rattle.mv_encoding.specs.Spots.{all_levels, StandsForValues}
pub use Rattle.net_model.specs.Files.{FileWords}
use Rattle.net_model.specs.Problems.{File, IsSoundFile}
use Rattle.net_frame.specs.Placing.{FileSpots}
use Rattle.net_frame.specs.Frames.{IsFilePlaced}
use Rattle.net_relation.specs.Relations.{AreFor, file_meanings, StandsForFileSteps, IsInitialOf, IsAcceptingOf}

-- the levels of a file's signals and of its states
abbrev pub file_levels : FileSpots → List ℕ
file_levels spots = all_levels spots.signals ++ (all_levels spots.present ++ all_levels spots.next)

-- The file stands on these spots, the parts are its steps, each with its own meaning, and the refs are its initial and its
-- accepting states.
pub record AreDiagrams (t : Table) (file : File) (spots : FileSpots) (parts : List ℕ) (init acc : ℕ) : Type 0 where
  pub sound : IsSoundFile file
  pub placed : IsFilePlaced t file spots
  pub steps : StandsForFileSteps t parts spots file
  pub meanings : AreFor t parts (file_meanings file spots)
  pub initial : StandsForValues t spots.present init (IsInitialOf file)
  pub accepting : StandsForValues t spots.present acc (IsAcceptingOf file)
