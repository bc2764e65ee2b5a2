-- Step relations that are told by parts.
use Rattle.std.specs.Prelude.{◌≡◌, ℕ, true, List}
use Rattle.node_table.specs.Table.{Bits, Table}
use Rattle.bdd_ops.specs.Levels.{SameAt}
use Rattle.part_relation.specs.Plans.{all_hold, AreValid}

-- What bits spell of a step under a frame: the state that it leaves, its letter and the state that it reaches, and the levels
-- of these three. All other levels remain for what is hidden.
pub record StepCode (Q A : Type 0) : Type 0 where
  pub present : Bits → Q
  pub letter : Bits → A
  pub next : Bits → Q
  pub levels : List ℕ

-- The parts stand for the step relation: from the state that the bits spell by their letter to the next state there is a
-- step exactly where some bits on the remaining levels give every part the value 1. Codes that spell no state or no letter
-- are in no step, as the relation has none there.
pub record StandsForSteps {Q A : Type 0} (t : Table) (parts : List ℕ) (code : StepCode Q A) (Step : Q → A → Q → Type 0) : Type 0 where
  pub valid : AreValid t parts
  pub found : (bits : Bits) → all_hold t parts bits ≡ true → Step (code.present bits) (code.letter bits) (code.next bits)
  pub holds : (bits : Bits) → Step (code.present bits) (code.letter bits) (code.next bits) → (u : Bits) × SameAt code.levels u bits × (all_hold t parts u ≡ true)
