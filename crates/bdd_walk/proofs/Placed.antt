-- The lists of a split that are held, as the Space grows and more are noted.
use Rattle.std.proofs.Common.{◌≡◌, ◌<◌, ◌⊎◌, ℕ, Bool, true, false, List, length, sym, subst, inl, inr, arith}
use Rattle.std.specs.List.{All}
use Rattle.node_table.specs.Table.{Table, Grows}
use Rattle.node_table.proofs.Growth.{grows-trans}
use Rattle.bdd_ops.specs.Recursion.{IsCofactor}
use Rattle.bdd_walk.specs.Splitting.{AreBothValid, low_of, IsGathered, IsNoted, list_at, IsPlaced, AreRight, Keeps, IsUnder, IsJoin}
use Rattle.bdd_walk.specs.declared.pairs.Pair.{Pair}
use Rattle.bdd_walk.specs.declared.split_memo.SplitMemo.{SplitMemo}
use Rattle.bdd_walk.specs.declared.splits.Piece.{Piece}
use Rattle.bdd_walk.proofs.Gathered.{under, both-grows, low-grows, gathered-grows, cofactor-grows, gathered-node}

-- a list at a place
pub placed : {t : Table} {level : ℕ} {memo : SplitMemo} {pair : Pair} {place : ℕ} {pieces : List Piece} → place < length memo.lists.items → list_at memo place ≡ pieces → IsGathered t level pair pieces → IsPlaced t level memo pair place
placed {t} {level} {memo} {pair} {place} {pieces} held is all = record {
  held = held;
  gathered = let P : List Piece → Type 0 = λ l. IsGathered t level pair l in subst P (sym is) all;
}

pub placed-later : {a b : Table} {level : ℕ} {old new : SplitMemo} {pair : Pair} {place : ℕ} → Grows a b → b.levels ≡ a.levels → Keeps old new → IsPlaced a level old pair place → IsPlaced b level new pair place
placed-later {a} {b} {level} {old} {new} {pair} {place} grow levels kept at =
    placed (let more = kept.more in omega (arith, more, at.held)) (kept.same place at.held) (gathered-grows a b grow levels level pair (list_at old place) at.gathered)

-- one list more is noted
pub right-later : {a b : Table} {level : ℕ} {old new : SplitMemo} {pair : Pair} {place : ℕ} → Grows a b → b.levels ≡ a.levels → AreRight a level old → Keeps old new → ((p : Pair) (k : ℕ) → IsNoted new p k → ((p ≡ pair) × (k ≡ place)) ⊎ IsNoted old p k) → IsPlaced b level new pair place → AreRight b level new
right-later {a} {b} {level} {old} {new} {pair} {place} grow levels right kept noted at p k is = by (noted p k is)
  where
    by : ((p ≡ pair) × (k ≡ place)) ⊎ IsNoted old p k → IsPlaced b level new p k
    by (inl same) =
        let P : Pair → Type 0 = λ q. IsPlaced b level new q k in
        let Q : ℕ → Type 0 = λ j. IsPlaced b level new pair j in
        subst P (sym same.0) (subst Q (sym same.1) at)
    by (inr before) = placed-later grow levels kept (right p k before)

-- a list that was made before, in the Space as it is now
pub gathered-later : {a b : Table} {level : ℕ} {old new : SplitMemo} {pair : Pair} {place : ℕ} {pieces : List Piece} → Grows a b → b.levels ≡ a.levels → Keeps old new → IsPlaced a level old pair place → pieces ≡ list_at new place → IsGathered b level pair pieces
gathered-later {a} {b} {level} {old} {new} {pair} {place} {pieces} grow levels kept at is =
    let P : List Piece → Type 0 = λ l. IsGathered b level pair l in
    subst P (sym is) (placed-later grow levels kept at).gathered

-- the guards of a half can stand under a node at the level that was fixed
pub half-under : {t b : Table} {level own : ℕ} {pair half : Pair} {bit : Bool} {pieces : List Piece} → Grows t b → b.levels ≡ t.levels → IsCofactor t own pair.f bit half.f → IsCofactor t own pair.within bit half.within → IsGathered b level half pieces → All (IsUnder b own) pieces
half-under {t} {b} {level} {own} {pair} {half} {bit} {pieces} grow same f within all =
    let f_top = grow.top same half.f f.valid.held in
    let within_top = grow.top same half.within within.valid.held in
    under b level half pieces all own (omega (arith, f_top, within_top, f.below, within.below))

-- a step down: the lists of both halves, and their join in the Space that it made
pub record IsStep (t b n : Table) (level own : ℕ) (pair pair0 pair1 : Pair) (lo hi pieces : List Piece) : Type 0 where
  pub both : AreBothValid t pair
  pub topmost : own ≡ low_of t pair
  pub above : own < level
  pub f0 : IsCofactor t own pair.f false pair0.f
  pub within0 : IsCofactor t own pair.within false pair0.within
  pub f1 : IsCofactor t own pair.f true pair1.f
  pub within1 : IsCofactor t own pair.within true pair1.within
  pub first : Grows t b
  pub first_levels : b.levels ≡ t.levels
  pub second : Grows b n
  pub second_levels : n.levels ≡ b.levels
  pub lo_all : IsGathered b level pair0 lo
  pub hi_all : IsGathered b level pair1 hi
  pub join : IsJoin n own lo hi pieces

pub gathered-step : {t b n : Table} {level own : ℕ} {pair pair0 pair1 : Pair} {lo hi pieces : List Piece} → IsStep t b n level own pair pair0 pair1 lo hi pieces → IsGathered n level pair pieces
gathered-step {t} {b} {n} {level} {own} {pair} {pair0} {pair1} {lo} {hi} {pieces} s =
    let whole = grows-trans t b n s.first s.second in
    let levels : n.levels ≡ t.levels = omega (arith, s.first_levels, s.second_levels) in
    let topmost : own ≡ low_of n pair = omega (arith, s.topmost, low-grows t n whole levels pair s.both) in
    gathered-node n level own pair s.above pair0 pair1 lo hi pieces (both-grows t n whole levels pair s.both) topmost
    (record {
      f = cofactor-grows t n whole levels own pair.f false pair0.f s.both.f s.f0;
      within = cofactor-grows t n whole levels own pair.within false pair0.within s.both.within s.within0;
      all = gathered-grows b n s.second s.second_levels level pair0 lo s.lo_all;
    })
    (record {
      f = cofactor-grows t n whole levels own pair.f true pair1.f s.both.f s.f1;
      within = cofactor-grows t n whole levels own pair.within true pair1.within s.both.within s.within1;
      all = gathered-grows b n s.second s.second_levels level pair1 hi s.hi_all;
    })
    s.join
