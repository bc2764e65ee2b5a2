-- What a split keeps on its way.
use Rattle.std.specs.Prelude.{◌≡◌, ◌==◌, ◌&&◌, ◌<◌, ◌≤◌, ℕ, Bool, true, if◌then◌else◌, min, fold, List, [], map, length, slice_index_or, Some, All}
use Rattle.std.specs.List.{AllPairs}
use Rattle.std.specs.Map.{lookup}
use Rattle.std.specs.Option.{option_map_or}
use Rattle.indexmap.specs.IndexMap.{get}
use Rattle.node_table.specs.Table.{Bits, Table, value_at, top_of, IsValid}
use Rattle.bdd_walk.specs.Cuts.{IsLeft}
use Rattle.bdd_walk.specs.declared.joins.Ends.{Ends}
use Rattle.bdd_walk.specs.declared.pairs.Pair.{Pair}
use Rattle.bdd_walk.specs.declared.split_memo.SplitMemo.{SplitMemo}
use Rattle.bdd_walk.specs.declared.splits.Piece.{Piece}

-- the guard of what is left in these pieces, and 0 where it isn't among them
abbrev pub guard_of : List Piece → ℕ → ℕ
guard_of pieces r = fold (λ guard p. if p.left == r then p.at else guard) 0 pieces

-- both are valid
pub record AreBothValid (t : Table) (pair : Pair) : Type 0 where
  pub f : IsValid t pair.f
  pub within : IsValid t pair.within

-- the topmost level of the two
abbrev pub low_of : Table → Pair → ℕ
low_of t pair = min (top_of t pair.f) (top_of t pair.within)

-- a piece whose guard asks for no bit above the floor
pub record IsPiece (t : Table) (level floor : ℕ) (p : Piece) : Type 0 where
  pub left_valid : IsValid t p.left
  pub at_valid : IsValid t p.at
  pub below : level ≤ top_of t p.left
  pub some : p.at ≡ 0 → ⊥
  pub top : floor ≤ top_of t p.at

-- the pieces of the pair: what f leaves at all bits of `within`, each once
pub record IsGathered (t : Table) (level : ℕ) (pair : Pair) (pieces : List Piece) : Type 0 where
  pub both : AreBothValid t pair
  pub each : All (IsPiece t level (low_of t pair)) pieces
  pub different : AllPairs (λ p q. p.left ≡ q.left → ⊥) pieces
  -- the guards of each ref are bits of `within` that leave it, and each bits of `within` have the guard of some ref
  pub inside : (r : ℕ) (u : Bits) → value_at t (guard_of pieces r) u ≡ true → value_at t pair.within u ≡ true
  pub leaves : (r : ℕ) (u : Bits) → value_at t (guard_of pieces r) u ≡ true → IsLeft t level pair.f u r
  pub covering : (u : Bits) → value_at t pair.within u ≡ true → (r : ℕ) × (value_at t (guard_of pieces r) u ≡ true)

-- the test by which the memo tells pairs apart
abbrev pub is_pair : Pair → Pair → Bool
is_pair p q = (p.f == q.f) && (p.within == q.within)

-- the memo has the list of the pair at this place
abbrev pub IsNoted : SplitMemo → Pair → ℕ → Type 0
IsNoted memo pair place = get is_pair memo.places pair ≡ Some place

-- the lists that the memo holds
abbrev pub lists_of : SplitMemo → List (List Piece)
lists_of memo = map (λ v. v.items) memo.lists.items

abbrev pub list_at : SplitMemo → ℕ → List Piece
list_at memo place = slice_index_or (lists_of memo) place []

-- there is a list at the place, and it has the pieces of the pair
pub record IsPlaced (t : Table) (level : ℕ) (memo : SplitMemo) (pair : Pair) (place : ℕ) : Type 0 where
  pub held : place < length memo.lists.items
  pub gathered : IsGathered t level pair (list_at memo place)

-- each list of the memo is right
abbrev pub AreRight : Table → ℕ → SplitMemo → Type 0
AreRight t level memo = (pair : Pair) (place : ℕ) → IsNoted memo pair place → IsPlaced t level memo pair place

-- the lists that were held are held so still, each at its place
pub record Keeps (old new : SplitMemo) : Type 0 where
  pub more : length old.lists.items ≤ length new.lists.items
  pub same : (place : ℕ) → place < length old.lists.items → list_at new place ≡ list_at old place

-- the guard of a piece can stand at an end of a node at this level
pub record IsUnder (t : Table) (level : ℕ) (p : Piece) : Type 0 where
  pub valid : IsValid t p.at
  pub below : level < top_of t p.at
  pub some : p.at ≡ 0 → ⊥

-- what stands beside a ref at both ends, and 0 where an end doesn't have it
abbrev pub lo_end : List (ℕ × Ends) → ℕ → ℕ
lo_end ends r = option_map_or (λ e. e.lo) (lookup (λ k. r == k) ends) 0

abbrev pub hi_end : List (ℕ × Ends) → ℕ → ℕ
hi_end ends r = option_map_or (λ e. e.hi) (lookup (λ k. r == k) ends) 0

-- two ends over which a node can be made at this level; one of them isn't 0
pub record AreEnds (t : Table) (level : ℕ) (e : Ends) : Type 0 where
  pub lo : IsValid t e.lo
  pub hi : IsValid t e.hi
  pub lo_below : level < top_of t e.lo
  pub hi_below : level < top_of t e.hi
  pub some : e.lo ≡ 0 → e.hi ≡ 0 → ⊥

-- the guard is the node at this level over both ends
pub record IsOver (t : Table) (level : ℕ) (e : Ends) (guard : ℕ) : Type 0 where
  pub ends : AreEnds t level e
  pub valid : IsValid t guard
  pub top : level ≤ top_of t guard
  pub some : guard ≡ 0 → ⊥
  pub value : (u : Bits) → value_at t guard u ≡ (if u level then value_at t e.hi u else value_at t e.lo u)

-- a piece for each of these ends so far
pub record AreOver (t : Table) (level : ℕ) (ends : List (ℕ × Ends)) (pieces : List Piece) : Type 0 where
  pub lefts : (k : ℕ) → k < length pieces → (p : Piece) (e : ℕ × Ends) → (slice_index_or pieces k p).left ≡ (slice_index_or ends k e).0
  pub each : All (λ p. (e : Ends) × (lookup (λ k. p.left == k) ends ≡ Some e) × IsOver t level e p.at) pieces

-- The pieces of a node from those of its ends: each ref that one of them has, with its guards at both ends under one node.
pub record IsJoin (t : Table) (level : ℕ) (lo hi pieces : List Piece) : Type 0 where
  pub valid : All (λ p. IsValid t p.at) pieces
  pub top : All (λ p. level ≤ top_of t p.at) pieces
  pub some : All (λ p. p.at ≡ 0 → ⊥) pieces
  pub from : All (λ p. guard_of lo p.left ≡ 0 → guard_of hi p.left ≡ 0 → ⊥) pieces
  pub different : AllPairs (λ p q. p.left ≡ q.left → ⊥) pieces
  pub value : (r : ℕ) (u : Bits) → value_at t (guard_of pieces r) u ≡ (if u level then value_at t (guard_of hi r) u else value_at t (guard_of lo r) u)
