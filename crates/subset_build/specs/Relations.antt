-- Relations on bits, as automata that may have several runs on a word.
use Rattle.std.specs.Prelude.{◌≡◌, ◌<◌, ℕ, Bool, true, false, List, map, All}
use Rattle.net_model.specs.Automata.{LanguageOf}
use Rattle.node_table.specs.Table.{Bits, Table, value_at, IsValid}
use Rattle.bdd_ops.specs.Levels.{is_in, SameAt, sources, renamed, IsRisingMap}
use Rattle.bdd_ops.specs.Meaning.{DependsOn}
use Rattle.part_relation.specs.Plans.{all_hold}
use Rattle.det_core.specs.Automata.{BitWord}

-- Which bits are an initial state, which an accepting one, and which a step; the levels of the letter; and the map from the
-- level of each bit of the next state to its level in the present state.
pub record Relation : Type 0 where
  pub init : Bits → Bool
  pub acc : Bits → Bool
  pub holds : Bits → Bool
  pub keep : List ℕ
  pub state : List (ℕ × ℕ)

-- the levels of the present state
abbrev pub present_of : List (ℕ × ℕ) → List ℕ
present_of state = map (λ p. p.1) state

-- these bits are a step that has the present state q, the letter a, and for its next state what r has as a present one
pub record Joins (rel : Relation) (q a r u : Bits) : Type 0 where
  pub now : SameAt (present_of rel.state) u q
  pub letter : SameAt rel.keep u a
  pub next : SameAt (sources rel.state) u (renamed rel.state r)
  pub is_step : rel.holds u ≡ true

-- a step leads from the state q by the letter a to the state r, whatever stands at other levels
abbrev pub StepsBy : Relation → Bits → Bits → Bits → Type 0
StepsBy rel q a r = (u : Bits) × Joins rel q a r u

-- some run on the word leads from an initial state to an accepting one
abbrev pub HasRun : Relation → BitWord → Type 0
HasRun rel word = LanguageOf (λ q. rel.init q ≡ true) (StepsBy rel) (λ q. rel.acc q ≡ true) word

-- the relation of diagrams
abbrev pub relation_of : Table → List ℕ → ℕ → ℕ → List ℕ → List (ℕ × ℕ) → Relation
relation_of t parts init acc keep state =
    record { init = value_at t init; acc = value_at t acc; holds = all_hold t parts; keep = keep; state = state }

-- All levels are there; the map rises and takes no level that it takes another one to; and the letter lies above the states.
pub record AreInOrder (levels : ℕ) (keep : List ℕ) (state : List (ℕ × ℕ)) : Type 0 where
  pub rises : IsRisingMap state
  pub keep_within : All (λ k. k < levels) keep
  pub state_within : All (λ p. (p.0 < levels) × (p.1 < levels)) state
  pub apart : (k : ℕ) → is_in (sources state) k ≡ true → is_in (present_of state) k ≡ false
  pub above_next : (k l : ℕ) → is_in keep k ≡ true → is_in (sources state) l ≡ true → k < l
  pub above_present : (k l : ℕ) → is_in keep k ≡ true → is_in (present_of state) l ≡ true → k < l

-- the ref is a set of letters, or one of states
pub record Reads (t : Table) (levels : List ℕ) (r : ℕ) : Type 0 where
  pub valid : IsValid t r
  pub depends : DependsOn t levels r
