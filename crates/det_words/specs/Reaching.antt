-- States that are reached from state 0, in the order in which they are found.
use Rattle.std.specs.Prelude.{◌≡◌, ◌<◌, ◌≤◌, ◌++◌, ℕ, Bool, false, IsTrue, List, length, slice_index, slice_index_or}
use Rattle.net_model.specs.Automata.{RunsFrom}
use Rattle.node_table.specs.Table.{Bits, Table}
use Rattle.det_core.specs.declared.det.Move.{Move}
use Rattle.det_core.specs.Automata.{BitWord, AreLetters, State, state_at}
use Rattle.det_core.specs.Languages.{MovesBy}
use Rattle.subset_build.specs.Tables.{Extends}

-- a run on the word leads from this state to one that accepts
abbrev pub HasRunFrom : Table → List State → ℕ → BitWord → Type 0
HasRunFrom t det k word = RunsFrom (MovesBy t det) (λ k. IsTrue (state_at det k).accepting) k word

-- a word of letters leads from state 0 to this one
pub record IsReached (t : Table) (letters : Bits → Bool) (det : List State) (k : ℕ) : Type 0 where
  pub word : BitWord
  pub are_letters : AreLetters letters word
  pub leads : (more : BitWord) → HasRunFrom t det k more → HasRunFrom t det 0 (word ++ more)

abbrev pub IsAmong : List ℕ → ℕ → Type 0
IsAmong reached state = (k : ℕ) × (k < length reached) × (slice_index reached k ≡ state)

-- some one of the first moves leads to the state
abbrev pub IsTarget : List Move → ℕ → ℕ → Type 0
IsTarget moves count state = (j : ℕ) × (m : Move) × (j < count) × (slice_index_or moves j m ≡ m) × (m.target ≡ state)

-- the targets of the first moves are there, and nothing else has come
pub record ArePut (old new : List ℕ) (moves : List Move) (count : ℕ) : Type 0 where
  pub extends : Extends old new
  pub all : (j : ℕ) (m : Move) → j < count → IsAmong new (slice_index_or moves j m).target
  pub came : (k : ℕ) → length old ≤ k → k < length new → IsTarget moves count (slice_index new k)

-- The first states that were reached reject, and the targets of their moves were reached.
pub record IsGoneThrough (det : List State) (place : ℕ) (reached : List ℕ) : Type 0 where
  pub some : 0 < length reached
  pub first : slice_index reached 0 ≡ 0
  pub states : (k : ℕ) → k < length reached → slice_index reached k < length det
  pub within : place ≤ length reached
  pub rejects : (k : ℕ) → k < place → (state_at det (slice_index reached k)).accepting ≡ false
  pub closed : (k : ℕ) → k < place → (j : ℕ) (m : Move) → j < length (state_at det (slice_index reached k)).moves → IsAmong reached (slice_index_or (state_at det (slice_index reached k)).moves j m).target
