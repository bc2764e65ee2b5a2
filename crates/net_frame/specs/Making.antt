-- What the steps of making a frame promise each other.
use Rattle.std.specs.Prelude.{◌≡◌, ◌≤◌, ◌+◌, ℕ, Bool, true, nat_lt, List, [], ◌∷◌, length, map, All}
use Rattle.std.specs.Str.{bytes_eq}
use Rattle.std.specs.List.{list_any, range_with_len}
use Rattle.name_table.specs.CodeBits.{bits_in}
use Rattle.name_table.specs.ScopeVars.{variable_at}
use Rattle.net_model.specs.Words.{Scope}
use Rattle.net_model.specs.Nets.{Net}
use Rattle.net_model.specs.NetLanguages.{letter_signals}
use Rattle.net_model.specs.Outlines.{outline}
use Rattle.net_model.specs.Problems.{File}
use Rattle.net_model.specs.declared.class.Mode.{Mode}
use Rattle.net_model.specs.declared.class.Mode.TheVariants.{Sync, Parallel}
use Rattle.mv_encoding.specs.Layouts.{Layout}
use Rattle.mv_encoding.specs.Spots.{AreSpots, all_levels}
use Rattle.bdd_ops.specs.Levels.{IsSetOf}
use Rattle.net_problem.specs.ProblemBits.{own_before}
use Rattle.net_frame.specs.Frames.{added}

-- the bits that the joint variables add to X's
abbrev pub added_bits : Scope → Scope → ℕ
added_bits x [] = 0
added_bits x (v ∷ joint) = added x v + added_bits x joint

-- for each signal the bits that a file has for itself before it
abbrev pub all_before : Net → List ℕ
all_before net = map (λ signal. bits_in (own_before net signal)) (range_with_len 0 (length net.names))

-- some spot is that of a variable of this name
abbrev pub has_spot : List Layout → List ℕ → Bool
has_spot spots name = list_any (λ spot. bytes_eq (variable_at spot.scope 0).name name) spots

-- the letter of this name has a code among the joint ones
abbrev pub has_letter : Mode → List Layout → List ℕ → Bool
has_letter Sync joint name = has_spot joint name
has_letter Parallel joint name = nat_lt 0 (length joint)

-- each letter of the network has one
abbrev pub HasLetters : Mode → List Layout → Net → Type 0
HasLetters mode joint net = All (λ signal. has_letter mode joint (variable_at net.names signal).name ≡ true) (letter_signals net)

abbrev pub FileHasLetters : Mode → List Layout → File → Type 0
FileHasLetters mode joint file = HasLetters mode joint (outline file)

-- single variables on levels that a Space can have
pub record AreJointCodes (spots : List Layout) : Type 0 where
  pub spots_are : AreSpots spots
  pub low : All (λ spot. spot.first ≤ 8192) spots
  pub few : length spots ≤ 16384

-- sets of the levels of letters, of present and of next values
pub record AreLevels (letters present next : List Layout) (letter_levels present_levels next_levels : List ℕ) : Type 0 where
  pub of_letters : IsSetOf (all_levels letters) letter_levels
  pub of_present : IsSetOf (all_levels present) present_levels
  pub of_next : IsSetOf (all_levels next) next_levels
