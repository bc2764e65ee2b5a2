-- What the walks keep on their way.
use Rattle.std.specs.Prelude.{◌≡◌, ◌==◌, ◌<◌, ◌≤◌, ◌⊎◌, ℕ, Bool, true, false, if◌then◌else◌, nat_lt, List, [], ◌∷◌, ◌++◌, length, slice_index, All, vec_capacity}
use Rattle.std.specs.List.{list_any}
use Rattle.node_table.specs.declared.node.Node.{Node}
use Rattle.node_table.specs.Table.{Bits, Table, number_of_next, value_at, top_of, IsValid}
use Rattle.bdd_ops.specs.Meaning.{DependsOn}
use Rattle.bdd_ops.specs.Words.{bit_of}
use Rattle.bdd_walk.specs.declared.paths.Lit.{Lit}
use Rattle.bdd_walk.specs.declared.trail.Trail.{Trail}
use Rattle.bdd_walk.specs.Paths.{Path, behind, paths_of}

-- the paths that go along these literals and on with one of `inner`; behind each literal come those by the bit 1 of its
-- level, from the other end of its node
abbrev pub paths_around : List Node → List Lit → List ℕ → List Path → List Path
paths_around nodes [] others inner = inner
paths_around nodes (l ∷ lits) [] inner = []
paths_around nodes (l ∷ lits) (other ∷ others) inner =
    behind l.level l.value (paths_around nodes lits others inner) ++ behind l.level true (paths_of nodes other)

-- the paths that a walk still has to come to
abbrev pub paths_left : List Node → Trail → List Path
paths_left nodes trail = paths_around nodes trail.lits.items trail.others.items (paths_of nodes trail.below)

-- A way down, by its literals, the other ends beside them and the diagram below it: the levels rise, so at the end of k
-- literals all diagrams lie below k levels.
pub record IsWay (t : Table) (lits : List Lit) (others : List ℕ) (below : ℕ) : Type 0 where
  pub below_valid : IsValid t below
  pub others_valid : All (IsValid t) others
  pub same_length : length others ≡ length lits
  pub lower : (k : ℕ) → k < length others → k < top_of t (slice_index others k)
  pub deep : length lits ≤ top_of t below

-- what holds of each trail: there is room for one literal a level
pub record IsTrail (t : Table) (trail : Trail) : Type 0 where
  pub way : IsWay t trail.lits.items trail.others.items trail.below
  pub lits_room : t.levels ≤ vec_capacity trail.lits
  pub others_room : t.levels ≤ vec_capacity trail.others

-- what a ref leaves where the levels above this one are fixed, from the least bits to the greatest, as often as they leave it
abbrev pub ends_of : ℕ → List Node → ℕ → List ℕ
ends_of level [] r = r ∷ []
ends_of level (n ∷ older) r =
    if r == number_of_next older
    then (if nat_lt n.level level then ends_of level older n.lo ++ ends_of level older n.hi else r ∷ [])
    else ends_of level older r

abbrev pub is_among : List ℕ → ℕ → Bool
is_among refs r = list_any (λ s. r == s) refs

-- these refs, and one more behind them if it isn't among them
abbrev pub put : List ℕ → ℕ → List ℕ
put refs r = if is_among refs r then refs else refs ++ r ∷ []

abbrev pub put_all : List ℕ → List ℕ → List ℕ
put_all refs [] = refs
put_all refs (r ∷ more) = put_all (put refs r) more

-- all that a ref leaves which was gone through is there
abbrev pub AreMet : ℕ → List Node → List ℕ → List ℕ → Type 0
AreMet level nodes met refs = (r s : ℕ) → is_among met r ≡ true → is_among (ends_of level nodes r) s ≡ true → is_among refs s ≡ true

-- among the first k of these levels the bits agree with the code, or have the bit 1 where they first differ from it
abbrev pub IsPassed : List ℕ → (ℕ → Bool) → ℕ → Bits → Type 0
IsPassed levels code k v =
    ((j : ℕ) × (j < k) × ((i : ℕ) → i < j → v (slice_index levels i) ≡ code i) × (code j ≡ false) × (v (slice_index levels j) ≡ true))
    ⊎ ((j : ℕ) → j < k → v (slice_index levels j) ≡ code j)

-- The way down to the least bits, k levels on: r is what is left of f where the bits at the levels passed are those of the
-- code. No smaller bits there lead to the value 1.
pub record IsDown (t : Table) (f : ℕ) (levels words : List ℕ) (k r : ℕ) : Type 0 where
  pub valid : IsValid t r
  pub some : r ≡ 0 → ⊥
  pub depends : DependsOn t levels r
  pub below : 2 ≤ r → (j : ℕ) → j < k → slice_index levels j < top_of t r
  pub value : (v : Bits) → ((j : ℕ) → j < k → v (slice_index levels j) ≡ bit_of words j) → value_at t f v ≡ value_at t r v
  pub least : (v : Bits) → value_at t f v ≡ true → IsPassed levels (bit_of words) k v
  pub rest : (j : ℕ) → k ≤ j → bit_of words j ≡ false
