-- Which levels a diagram depends on, as marks by level.
use Rattle.std.specs.Prelude.{◌≡◌, ◌==◌, ◌<◌, ◌≤◌, ◌⊎◌, ◌&&◌, ℕ, suc, nat_eq, not, Bool, true, false, if◌then◌else◌, List, length, slice_index, slice_index_or}
use Rattle.indexmap.specs.IndexSet.{contains}
use Rattle.node_table.specs.Table.{Table}
use Rattle.bdd_ops.specs.Levels.{is_in}
use Rattle.part_relation.specs.Plans.{IsFree, Depends}
use Rattle.part_relation.specs.declared.seen.Seen.{Seen}

-- whether the level is marked
abbrev pub is_marked : List Bool → ℕ → Bool
is_marked marks level = slice_index_or marks level false

-- the ref depends on no level but the marked ones
abbrev pub IsCovered : Table → List Bool → ℕ → Type 0
IsCovered t marks r = (level : ℕ) → is_marked marks level ≡ false → IsFree t r level

-- old marks stay, and those that came are of levels that the ref depends on
pub record AreMarked (t : Table) (r : ℕ) (old new : List Bool) : Type 0 where
  pub kept : (level : ℕ) → is_marked old level ≡ true → is_marked new level ≡ true
  pub found : (level : ℕ) → is_marked new level ≡ true → (is_marked old level ≡ true) ⊎ Depends t r level

-- the marks are of the levels that the ref depends on
pub record IsSupport (t : Table) (r : ℕ) (marks : List Bool) : Type 0 where
  pub len : length marks ≡ t.levels
  pub free : IsCovered t marks r
  pub depends : (level : ℕ) → is_marked marks level ≡ true → Depends t r level

-- of the first parts: turn 0 where none depends on the level, and else one more than the place of the last that does
pub record IsTurn (t : Table) (parts : List ℕ) (taken level turn : ℕ) : Type 0 where
  pub within : turn ≤ taken
  pub here : (place : ℕ) → turn ≡ suc place → Depends t (slice_index parts place) level
  pub later : (place : ℕ) → turn ≤ place → place < taken → IsFree t (slice_index parts place) level

-- the turns by level
pub record AreTurns (t : Table) (parts : List ℕ) (taken : ℕ) (turns : List ℕ) : Type 0 where
  pub len : length turns ≡ t.levels
  pub each : (level : ℕ) → level < length turns → IsTurn t parts taken level (slice_index turns level)

-- the ref was seen
abbrev pub IsSeen : Seen → ℕ → Type 0
IsSeen seen r = contains nat_eq seen.refs r ≡ true

-- what was seen depends on no level but the marked ones
abbrev pub AreCovered : Table → List Bool → Seen → Type 0
AreCovered t marks seen = (r : ℕ) → IsSeen seen r → IsCovered t marks r

-- the turns once the first n levels, where they are marked, are put off to this one
pub record ArePutOff (old : List ℕ) (marks : List Bool) (turn n : ℕ) (new : List ℕ) : Type 0 where
  pub len : length new ≡ length old
  pub within : (level : ℕ) → level < n → slice_index new level ≡ (if is_marked marks level then turn else slice_index old level)
  pub beyond : (level : ℕ) → n ≤ level → slice_index new level ≡ slice_index old level

-- the levels, among the first n, that have this turn and are not kept
pub record AreOfTurn (turns : List ℕ) (kept : List Bool) (turn n : ℕ) (levels : List ℕ) : Type 0 where
  pub within : (level : ℕ) → level < n → is_in levels level ≡ ((slice_index turns level == turn) && not (is_marked kept level))
  pub beyond : (level : ℕ) → n ≤ level → is_in levels level ≡ false
