-- Relations that are told by parts, and plans to hide levels while the parts are conjoined.
use Rattle.std.specs.Prelude.{◌≡◌, ◌<◌, ◌⊎◌, ◌&&◌, ℕ, Bool, true, List, [], ◌∷◌, ◌++◌, length, take, slice_index, slice_index_or, All}
use Rattle.std.specs.List.{AllPairs, list_all, flat_map}
use Rattle.node_table.specs.Table.{Bits, Table, value_at, IsValid}
use Rattle.bdd_ops.specs.Levels.{SameOutside}
use Rattle.bdd_ops.specs.Meaning.{HasSome, IsShort}

-- all parts have the value 1
abbrev pub all_hold : Table → List ℕ → Bits → Bool
all_hold t parts bits = list_all (λ part. value_at t part bits) parts

abbrev pub AreValid : Table → List ℕ → Type 0
AreValid t parts = All (IsValid t) parts

-- the value of the ref doesn't depend on the bit at this level
abbrev pub IsFree : Table → ℕ → ℕ → Type 0
IsFree t r level = (u v : Bits) → SameOutside (level ∷ []) u v → value_at t r u ≡ value_at t r v

abbrev pub Depends : Table → ℕ → ℕ → Type 0
Depends t r level = IsFree t r level → ⊥

-- A plan takes all parts in some order. It names the levels that are hidden before the first part is taken, and for each
-- place those that are hidden once the part in that place is taken.
pub record Plan : Type 0 where
  pub order : List ℕ
  pub first : List ℕ
  pub hides : List (List ℕ)

-- the levels that a plan names
abbrev pub named_by : Plan → List ℕ
named_by plan = plan.first ++ flat_map (λ levels. levels) plan.hides

-- the part in a place
abbrev pub part_at : List ℕ → Plan → ℕ → ℕ
part_at parts plan place = slice_index parts (slice_index plan.order place)

-- the numbers below n, each once
pub record IsArrangement (n : ℕ) (order : List ℕ) : Type 0 where
  pub len : length order ≡ n
  pub below : All (λ k. k < n) order
  pub different : AllPairs (λ j k. j ≡ k → ⊥) order

-- the part in this place depends on the level, and none that is taken later does
pub record IsLast (t : Table) (parts : List ℕ) (plan : Plan) (place level : ℕ) : Type 0 where
  pub here : Depends t (part_at parts plan place) level
  pub later : (next : ℕ) → place < next → next < length plan.order → IsFree t (part_at parts plan next) level

-- The plan fits these parts: its places are an arrangement of them, and each level that it names is a level of the Space,
-- named in the place of the last part that depends on it, or before the first where no part does.
pub record Fits (t : Table) (parts : List ℕ) (plan : Plan) : Type 0 where
  pub order : IsArrangement (length parts) plan.order
  pub places : length plan.hides ≡ length plan.order
  pub exist : All (λ level. level < t.levels) (named_by plan)
  pub first : All (λ level. All (λ part. IsFree t part level) parts) plan.first
  pub last : (place : ℕ) → place < length plan.hides → All (IsLast t parts plan place) (slice_index_or plan.hides place [])

-- the levels that are hidden before the part in this place is taken, and what was conjoined so far
abbrev pub hidden_before : Plan → ℕ → List ℕ
hidden_before plan place = plan.first ++ flat_map (λ levels. levels) (take place plan.hides)

abbrev pub meaning_before : Table → List ℕ → Plan → ℕ → ℕ → Bits → Bool
meaning_before t parts plan from place bits = value_at t from bits && list_all (λ k. value_at t (slice_index parts k) bits) (take place plan.order)

-- In this place an answer on the way to an image is missing: what is left before the place, conjoined with the part there, with
-- the levels hidden that are hidden there. `t` is the Space at the begin, and `s` at the end.
pub record IsShortAt (t s : Table) (parts : List ℕ) (plan : Plan) (from place : ℕ) : Type 0 where
  pub within : place < length plan.order
  pub left : Bits → Bool
  pub found : (bits : Bits) → left bits ≡ true → HasSome (hidden_before plan place) (meaning_before t parts plan from place) bits
  pub holds : (bits : Bits) → HasSome (hidden_before plan place) (meaning_before t parts plan from place) bits → left bits ≡ true
  pub short : IsShort s (slice_index_or plan.hides place []) (λ bits. left bits && value_at t (part_at parts plan place) bits)

-- an answer on the way to an image is missing: `from` with the first levels hidden, or one in some place
abbrev pub IsImageShort : Table → Table → List ℕ → Plan → ℕ → Type 0
IsImageShort t s parts plan from = IsShort s plan.first (λ bits. value_at t from bits) ⊎ ((place : ℕ) × IsShortAt t s parts plan from place)
