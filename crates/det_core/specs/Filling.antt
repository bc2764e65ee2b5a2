-- What is done to the states of an automaton to complete it.
use Rattle.std.specs.Prelude.{◌≡◌, ◌+◌, ◌<◌, ◌⊎◌, ℕ, Bool, true, false, if◌then◌else◌, List, length, Some, None, All}
use Rattle.node_table.specs.Table.{Bits, Table}
use Rattle.det_core.specs.declared.det.Move.{Move}
use Rattle.det_core.specs.declared.det.DetState.{DetState}
use Rattle.det_core.specs.Automata.{State, state_at, target_of, TargetsBelow, AreGuards, Covers}

-- what is seen of one state of the code
abbrev pub seen : DetState → State
seen s = record { accepting = s.accepting; moves = s.moves.items }

-- The moves, and one more to the target for the letters that have none, if there are any, as `lacks` tells.
pub record IsFilled (old new : Table) (letters : Bits → Bool) (target : ℕ) (moves filled : List Move) (lacks : Bool) : Type 0 where
  pub guards : AreGuards new letters filled
  pub covers : Covers new letters filled
  pub targets : TargetsBelow (if lacks then target + 1 else target) filled
  pub leads : (bits : Bits) → (target_of new filled bits ≡ target_of old moves bits) ⊎ ((target_of old moves bits ≡ None) × (target_of new filled bits ≡ Some target))

-- the same of the first k states, which stand at the same places
pub record AreFilled (old new : Table) (letters : Bits → Bool) (det : List State) (k : ℕ) (done : List State) (lacking : Bool) : Type 0 where
  pub len : length done ≡ k
  pub accepts : (j : ℕ) → j < k → (state_at done j).accepting ≡ (state_at det j).accepting
  pub fills : (j : ℕ) → j < k → (lacks : Bool) × (lacks ≡ true → lacking ≡ true) × IsFilled old new letters (length det) (state_at det j).moves (state_at done j).moves lacks

-- a state that doesn't accept and that no letter leaves
pub record IsLast (t : Table) (letters : Bits → Bool) (number : ℕ) (last : State) : Type 0 where
  pub rejects : last.accepting ≡ false
  pub guards : AreGuards t letters last.moves
  pub covers : Covers t letters last.moves
  pub targets : All (λ m. m.target ≡ number) last.moves

-- The states are filled, and behind them there is the state that is never left, where one lacked a move.
pub record AreCompleted (old new : Table) (letters : Bits → Bool) (det done : List State) : Type 0 where
  pub lacking : Bool
  pub len : length done ≡ (if lacking then length det + 1 else length det)
  pub accepts : (j : ℕ) → j < length det → (state_at done j).accepting ≡ (state_at det j).accepting
  pub fills : (j : ℕ) → j < length det → (lacks : Bool) × (lacks ≡ true → lacking ≡ true) × IsFilled old new letters (length det) (state_at det j).moves (state_at done j).moves lacks
  pub last : lacking ≡ true → IsLast new letters (length det) (state_at done (length det))
