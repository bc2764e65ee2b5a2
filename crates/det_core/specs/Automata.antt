-- Deterministic automata. A letter is given by bits: two of them with the same bits at the levels that the guards read are
-- one letter to every guard.
use Rattle.std.specs.Prelude.{◌≡◌, ◌<◌, ℕ, Bool, true, false, not, if◌then◌else◌, List, [], ◌∷◌, map, length, slice_index_or, Option, Some, None, All}
use Rattle.std.specs.List.{list_any, AllByRecursion, AllPairs}
use Rattle.node_table.specs.Table.{Bits, Table, value_at, IsValid}
use Rattle.bdd_ops.specs.Meaning.{DependsOn}
use Rattle.det_core.specs.declared.det.Move.{Move}
use Rattle.det_core.specs.declared.det.DetState.{DetState}

-- a word of such letters
abbrev pub BitWord : Type 0
BitWord = List Bits

-- each position has a letter, as this test tells
abbrev pub AreLetters : (Bits → Bool) → BitWord → Type 0
AreLetters letters word = AllByRecursion (λ bits. letters bits ≡ true) word

-- what is seen of one state
pub record State : Type 0 where
  pub accepting : Bool
  pub moves : List Move

abbrev pub states_of : List DetState → List State
states_of states = map (λ s. record { accepting = s.accepting; moves = s.moves.items }) states

-- a number that no state has stands for a state that doesn't accept and has no moves
abbrev pub state_at : List State → ℕ → State
state_at det k = slice_index_or det k (record { accepting = false; moves = [] })

-- the target of the first of these moves whose guard has the letter
abbrev pub target_of : Table → List Move → Bits → Option ℕ
target_of t [] bits = None
target_of t (m ∷ moves) bits = if value_at t m.guard bits then Some m.target else target_of t moves bits

-- whether the word leads from a state to one that accepts
abbrev pub accepts_from : Table → List State → Option ℕ → BitWord → Bool
accepts_from t det None word = false
accepts_from t det (Some k) [] = (state_at det k).accepting
accepts_from t det (Some k) (bits ∷ word) = accepts_from t det (target_of t (state_at det k).moves bits) word

-- whether the automaton, which starts in state 0, has the word
abbrev pub has_word : Table → List State → BitWord → Bool
has_word t det word = accepts_from t det (Some 0) word

-- each target is one of so many states
abbrev pub TargetsBelow : ℕ → List Move → Type 0
TargetsBelow n moves = All (λ m. m.target < n) moves

-- what holds of each automaton: it has a state, and each target is one of its states
pub record IsDet (det : List State) : Type 0 where
  pub some : 0 < length det
  pub targets : All (λ s. TargetsBelow (length det) s.moves) det

abbrev pub AreGuardsValid : Table → List Move → Type 0
AreGuardsValid t moves = All (λ m. IsValid t m.guard) moves

-- the rule on guards: they are disjoint sets of letters, none of them is empty, and at most one move goes to each target
pub record AreGuards (t : Table) (letters : Bits → Bool) (moves : List Move) : Type 0 where
  pub valid : AreGuardsValid t moves
  pub some : All (λ m. m.guard ≡ 0 → ⊥) moves
  pub within : All (λ m. (bits : Bits) → value_at t m.guard bits ≡ true → letters bits ≡ true) moves
  pub disjoint : AllPairs (λ m n. (bits : Bits) → value_at t m.guard bits ≡ true → value_at t n.guard bits ≡ true → ⊥) moves
  pub targets : AllPairs (λ m n. m.target ≡ n.target → ⊥) moves

-- each state meets it
abbrev pub MeetsRule : Table → (Bits → Bool) → List State → Type 0
MeetsRule t letters det = All (λ s. AreGuards t letters s.moves) det

-- some move has the letter
abbrev pub is_covered : Table → List Move → Bits → Bool
is_covered t moves bits = list_any (λ m. value_at t m.guard bits) moves

-- the guards of a state cover all letters
abbrev pub Covers : Table → (Bits → Bool) → List Move → Type 0
Covers t letters moves = (bits : Bits) → letters bits ≡ true → is_covered t moves bits ≡ true

abbrev pub IsComplete : Table → (Bits → Bool) → List State → Type 0
IsComplete t letters det = All (λ s. Covers t letters s.moves) det

-- all guards read these levels alone
abbrev pub ReadsAlone : Table → List ℕ → List State → Type 0
ReadsAlone t levels det = All (λ s. All (λ m. DependsOn t levels m.guard) s.moves) det

-- the state with the same moves that accepts where this one doesn't
abbrev pub turned : State → State
turned s = record { accepting = not s.accepting; moves = s.moves }
