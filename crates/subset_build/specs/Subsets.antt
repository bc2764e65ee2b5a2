-- Sets of states, as diagrams on the levels of the present state, and the automaton whose states are such sets.
use Rattle.std.specs.Prelude.{◌≡◌, ◌<◌, ◌≤◌, ℕ, Bool, true, List, length, slice_index, All}
use Rattle.std.specs.List.{AllPairs}
use Rattle.node_table.specs.Table.{Bits, Table, value_at, top_of, IsValid}
use Rattle.bdd_ops.specs.Meaning.{DependsOn}
use Rattle.bdd_walk.specs.Cuts.{IsLeft}
use Rattle.det_core.specs.declared.det.Move.{Move}
use Rattle.det_core.specs.Automata.{State, state_at, TargetsBelow, AreGuards, Covers}
use Rattle.subset_build.specs.Relations.{Relation, StepsBy, present_of, Reads}

abbrev pub IsSet : Table → Relation → ℕ → Type 0
IsSet t rel set = Reads t (present_of rel.state) set

-- `to` has exactly the states to which a step by the letter leads from a state of `from`
pub record IsNext (rel : Relation) (from : Bits → Bool) (a : Bits) (to : Bits → Bool) : Type 0 where
  pub found : (r : Bits) → to r ≡ true → (q : Bits) × (from q ≡ true) × StepsBy rel q a r
  pub has : (q r : Bits) → from q ≡ true → StepsBy rel q a r → to r ≡ true

-- The image of `from`: at the bits of a letter and of a state it is 1 exactly where a step leads from a state of `from` by
-- that letter to that state.
pub record IsImage (t : Table) (rel : Relation) (from : Bits → Bool) (f : ℕ) : Type 0 where
  pub found : (v : Bits) → value_at t f v ≡ true → (q : Bits) × (from q ≡ true) × StepsBy rel q v v
  pub has : (q v : Bits) → from q ≡ true → StepsBy rel q v v → value_at t f v ≡ true

-- The moves of a state, by its image: their letters are disjoint and are all letters, each leads to what the image leaves at
-- it, and all letters that leave a set lead there.
pub record AreMovesOf (t : Table) (letters : Bits → Bool) (level f : ℕ) (sets : List ℕ) (moves : List Move) : Type 0 where
  pub guards : AreGuards t letters moves
  pub covers : Covers t letters moves
  pub within : TargetsBelow (length sets) moves
  pub lefts : All (λ m. IsValid t (slice_index sets m.target) × (level ≤ top_of t (slice_index sets m.target))) moves
  pub leads : All (λ m. (a : Bits) → value_at t m.guard a ≡ true → IsLeft t level f a (slice_index sets m.target)) moves
  pub whole : All (λ m. (a : Bits) → letters a ≡ true → IsLeft t level f a (slice_index sets m.target) → value_at t m.guard a ≡ true) moves

-- a state stands for set k
pub record IsState (t : Table) (rel : Relation) (letters : Bits → Bool) (sets : List ℕ) (k : ℕ) (s : State) : Type 0 where
  pub accepts : s.accepting ≡ true → (q : Bits) × (value_at t (slice_index sets k) q ≡ true) × (rel.acc q ≡ true)
  pub accepted : (q : Bits) → value_at t (slice_index sets k) q ≡ true → rel.acc q ≡ true → s.accepting ≡ true
  pub guards : AreGuards t letters s.moves
  pub depends : All (λ m. DependsOn t rel.keep m.guard) s.moves
  pub covers : Covers t letters s.moves
  pub within : TargetsBelow (length sets) s.moves
  pub leads : All (λ m. (a : Bits) → value_at t m.guard a ≡ true → IsNext rel (value_at t (slice_index sets k)) a (value_at t (slice_index sets m.target))) s.moves

-- a set was found from an earlier one
pub record IsFound (t : Table) (rel : Relation) (letters : Bits → Bool) (sets : List ℕ) (k : ℕ) : Type 0 where
  pub from : ℕ
  pub earlier : from < k
  pub letter : Bits
  pub is_letter : letters letter ≡ true
  pub next : IsNext rel (value_at t (slice_index sets from)) letter (value_at t (slice_index sets k))

-- the sets that came are those to which letters lead from this one
pub record IsNextOf (t : Table) (rel : Relation) (letters : Bits → Bool) (from : Bits → Bool) (set : ℕ) : Type 0 where
  pub is_set : IsSet t rel set
  pub letter : Bits
  pub is_letter : letters letter ≡ true
  pub next : IsNext rel from letter (value_at t set)

abbrev pub AreNextOf : Table → Relation → (Bits → Bool) → (Bits → Bool) → List ℕ → List ℕ → Type 0
AreNextOf t rel letters from old new = (k : ℕ) → length old ≤ k → k < length new → IsNextOf t rel letters from (slice_index new k)

-- Sets of states, the first of which has the initial ones, and each other is where some letter leads from an earlier one.
pub record AreSets (t : Table) (rel : Relation) (letters : Bits → Bool) (sets : List ℕ) : Type 0 where
  pub some : 0 < length sets
  pub first : (q : Bits) → value_at t (slice_index sets 0) q ≡ rel.init q
  pub each : (k : ℕ) → k < length sets → IsSet t rel (slice_index sets k)
  pub reached : (k : ℕ) → 0 < k → k < length sets → IsFound t rel letters sets k

-- the states made so far stand for the first sets
pub record AreStates (t : Table) (rel : Relation) (letters : Bits → Bool) (sets : List ℕ) (states : List State) : Type 0 where
  pub made : length states ≤ length sets
  pub each : (k : ℕ) → k < length states → IsState t rel letters sets k (state_at states k)

-- the answer tells whether some bits are in both sets
pub record HaveCommon (t : Table) (f g : ℕ) (common : Bool) : Type 0 where
  pub found : common ≡ true → (q : Bits) × (value_at t f q ≡ true) × (value_at t g q ≡ true)
  pub has : (q : Bits) → value_at t f q ≡ true → value_at t g q ≡ true → common ≡ true

-- The states of an automaton stand for different sets, and there is a state for each set that was found.
pub record IsExplored (t : Table) (rel : Relation) (letters : Bits → Bool) (states : List State) : Type 0 where
  pub sets : List ℕ
  pub are_sets : AreSets t rel letters sets
  pub different : AllPairs (λ r s. r ≡ s → ⊥) sets
  pub are_states : AreStates t rel letters sets states
  pub all : length states ≡ length sets

-- so many different sets were found
pub record AreSoMany (t : Table) (rel : Relation) (letters : Bits → Bool) (count : ℕ) : Type 0 where
  pub sets : List ℕ
  pub are_sets : AreSets t rel letters sets
  pub different : AllPairs (λ r s. r ≡ s → ⊥) sets
  pub number : length sets ≡ count
