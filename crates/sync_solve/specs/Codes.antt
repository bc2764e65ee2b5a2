-- An automaton in bits: the number of its state stands on consecutive levels, that of the next state right behind.
use Rattle.std.specs.Prelude.{◌≡◌, ◌==◌, ◌+◌, ℕ, List, map}
use Rattle.std.specs.List.{range_with_len}
use Rattle.node_table.specs.Table.{Bits, Table}
use Rattle.bdd_ops.specs.Meaning.{StandsFor}
use Rattle.part_relation.specs.Plans.{all_hold, AreValid}
use Rattle.det_core.specs.Automata.{State, state_at}
use Rattle.det_core.specs.Codes.{code_number, steps_by}
use Rattle.subset_build.specs.Relations.{Relation}

-- the levels of a state of so many digits, from the first on, and those of the next state
abbrev pub code_levels : ℕ → ℕ → List ℕ
code_levels first digits = range_with_len first digits

abbrev pub next_levels : ℕ → ℕ → List ℕ
next_levels first digits = range_with_len (first + digits) digits

-- from the levels of the next state to those of the present one
abbrev pub code_back : ℕ → ℕ → List (ℕ × ℕ)
code_back first digits = map (λ k. (first + digits + k, first + k)) (range_with_len 0 digits)

-- the number of the state, and of the next one
abbrev pub state_number : ℕ → ℕ → Bits → ℕ
state_number first digits bits = code_number (code_levels first digits) bits

abbrev pub next_number : ℕ → ℕ → Bits → ℕ
next_number first digits bits = code_number (next_levels first digits) bits

-- the steps of the automaton between numbers of states, by letters that stand at these levels
abbrev pub coded : Table → List State → List ℕ → ℕ → ℕ → Relation
coded t det keep first digits = record {
  init = λ q. state_number first digits q == 0;
  acc = λ q. (state_at det (state_number first digits q)).accepting;
  holds = λ u. steps_by t det (state_number first digits u) u (next_number first digits u);
  keep = keep;
  state = code_back first digits;
}

-- The diagrams are the steps, the initial and the accepting states of the automaton, whose guards are refs of the first Space.
pub record AreCoded (base t : Table) (det : List State) (first digits : ℕ) (parts : List ℕ) (init acc : ℕ) : Type 0 where
  pub valid : AreValid t parts
  pub steps : (u : Bits) → all_hold t parts u ≡ steps_by base det (state_number first digits u) u (next_number first digits u)
  pub initial : StandsFor t init (λ q. state_number first digits q == 0)
  pub accepting : StandsFor t acc (λ q. (state_at det (state_number first digits q)).accepting)
