-- The diagrams of a file.
use Rattle.std.specs.Prelude.{◌≡◌, ℕ, List}
use Rattle.node_table.specs.Table.{Table}
use Rattle.bdd_ops.specs.Levels.{is_in}
use Rattle.mv_encoding.specs.Spots.{all_levels, StandsForValues}
use Rattle.net_model.specs.Files.{File, IsSoundFile}
use Rattle.net_frame.specs.Frames.{IsFilePlaced}
use Rattle.net_frame.specs.Placing.{FileSpots}
use Rattle.net_relation.specs.Relations.{StandsForFileSteps, IsInitialOf, IsAcceptingOf}

-- On these spots the parts are the steps of the file, the refs its initial and its accepting states, and `keep` are the
-- levels of its letters.
pub record IsRelationOf (t : Table) (file : File) (spots : FileSpots) (parts : List ℕ) (init acc : ℕ) (keep : List ℕ) : Type 0 where
  pub sound : IsSoundFile file
  pub placed : IsFilePlaced t file spots
  pub steps : StandsForFileSteps t parts spots file
  pub initial : StandsForValues t spots.present init (IsInitialOf file)
  pub accepting : StandsForValues t spots.present acc (IsAcceptingOf file)
  pub letters : (k : ℕ) → is_in keep k ≡ is_in (all_levels spots.letters) k
