use Rattle.std.proofs.Common.{◌≡◌, ◌⊎◌, ◌<◌, ℕ, List, length, refl, sym, ◌∙◌, subst, arith}
use Rattle.node_table.specs.Table.{Table}
use Rattle.node_table.proofs.Growth.{grows-refl, grows-trans}
use Rattle.bdd_walk.specs.Splitting.{IsGathered, IsNoted, list_at, IsPlaced, AreRight}
use Rattle.bdd_walk.specs.declared.pairs.Pair.{Pair}
use Rattle.bdd_walk.specs.declared.split_memo.SplitMemo.{SplitMemo}
use Rattle.bdd_walk.specs.declared.splits.Piece.{Piece}
use Rattle.bdd_walk.proofs.Joined.{ok-both}
use Rattle.bdd_walk.proofs.Placed.{IsStep, placed, right-later, gathered-later, half-under, gathered-step}
use Rattle.bdd_walk.proofs.splits.+gather.Goals as goal

pub returns-then-is_whole-clause-ok : goal.returns-then-is_whole-clause-ok
returns-then-is_whole-clause-ok t c =
    let memo : SplitMemo = c.note.new.self in
    ok-both c.note.result (λ place. place < length memo.lists.items) (λ place. list_at memo place ≡ c.in_ok-pieces.pieces.items) (λ place. IsPlaced c.args.space.now c.args.level memo c.args.pair.now place)
    (λ place held is. placed held is c.in_ok-pieces.ensures.ok)
    c.note.ensures.held
    c.note.ensures.list

pub returns-then-is_whole-clause-memo : goal.returns-then-is_whole-clause-memo
returns-then-is_whole-clause-memo t c =
    let pair : Pair = c.args.pair.now in
    let before : SplitMemo = c.args.memo.now in
    let memo : SplitMemo = c.note.new.self in
    ok-both c.note.result (λ place. IsPlaced c.args.space.now c.args.level memo pair place) (λ place. (p : Pair) (k : ℕ) → IsNoted memo p k → ((p ≡ pair) × (k ≡ place)) ⊎ IsNoted before p k) (λ _. AreRight c.args.space.now c.args.level memo)
    (λ place at noted. right-later (grows-refl c.args.space.now c.requires.valid.f.table) refl c.requires.memo c.note.ensures.kept noted at)
    (returns-then-is_whole-clause-ok t c)
    c.note.ensures.noted

pub join-requires : goal.join-requires
join-requires t c =
    let level : ℕ = c.args.level in
    let old : Table = c.args.space.now in
    let a : Table = c.gather.new.space in
    let b : Table = c.gather-2.new.space in
    let pair0 : Pair = c.cofactors-pair0.result in
    let pair1 : Pair = c.cofactors-pair1.result in
    let grow = grows-trans old a b c.in_ok-lo.ensures.grows c.in_ok-hi.ensures.grows in
    let levels : b.levels ≡ old.levels = c.in_ok-hi.ensures.levels ∙ c.in_ok-lo.ensures.levels in
    let lo_all : IsGathered b level pair0 c.list.result.now = gathered-later c.in_ok-hi.ensures.grows c.in_ok-hi.ensures.levels c.in_ok-hi.ensures.kept c.in_ok-lo.ensures.ok c.list.ensures in
    let hi_at = c.in_ok-hi.ensures.ok in
    let Q : List Piece → Type 0 = λ l. IsGathered b level pair1 l in
    let parted = c.if-is_whole.ensures.parted refl in
    record {
      lo = half-under grow levels c.cofactors-pair0.ensures.f c.cofactors-pair0.ensures.within lo_all;
      hi = half-under grow levels c.cofactors-pair1.ensures.f c.cofactors-pair1.ensures.within (subst Q (sym c.list-2.ensures) hi_at.gathered);
      exists = omega (arith, c.low-own.ensures, parted.1, levels);
    }

-- what the join of both lists is
joined : (t : ℕ) (c : goal.After-note-2 t) → IsGathered c.join.new.space c.args.level c.args.pair.now c.in_ok-pieces-2.pieces.items
joined t c =
    let level : ℕ = c.args.level in
    let old : Table = c.args.space.now in
    let a : Table = c.gather.new.space in
    let b : Table = c.gather-2.new.space in
    let pair0 : Pair = c.cofactors-pair0.result in
    let pair1 : Pair = c.cofactors-pair1.result in
    let hi_at = c.in_ok-hi.ensures.ok in
    let Q : List Piece → Type 0 = λ l. IsGathered b level pair1 l in
    let parted = c.if-is_whole.ensures.parted refl in
    let step : IsStep old b c.join.new.space level c.low-own.result c.args.pair.now pair0 pair1 c.list.result.now c.list-2.result.now c.in_ok-pieces-2.pieces.items = record {
      both = c.requires.valid;
      topmost = c.low-own.ensures;
      above = omega (arith, c.low-own.ensures, parted.0);
      f0 = c.cofactors-pair0.ensures.f;
      within0 = c.cofactors-pair0.ensures.within;
      f1 = c.cofactors-pair1.ensures.f;
      within1 = c.cofactors-pair1.ensures.within;
      first = grows-trans old a b c.in_ok-lo.ensures.grows c.in_ok-hi.ensures.grows;
      first_levels = c.in_ok-hi.ensures.levels ∙ c.in_ok-lo.ensures.levels;
      second = c.in_ok-pieces-2.ensures.grows;
      second_levels = c.in_ok-pieces-2.ensures.levels;
      lo_all = gathered-later c.in_ok-hi.ensures.grows c.in_ok-hi.ensures.levels c.in_ok-hi.ensures.kept c.in_ok-lo.ensures.ok c.list.ensures;
      hi_all = subst Q (sym c.list-2.ensures) hi_at.gathered;
      join = c.in_ok-pieces-2.ensures.ok;
    } in
    gathered-step step

pub returns-clause-ok : goal.returns-clause-ok
returns-clause-ok t c =
    let memo : SplitMemo = c.note-2.new.self in
    ok-both c.note-2.result (λ place. place < length memo.lists.items) (λ place. list_at memo place ≡ c.in_ok-pieces-2.pieces.items) (λ place. IsPlaced c.join.new.space c.args.level memo c.args.pair.now place)
    (λ place held is. placed held is (joined t c))
    c.note-2.ensures.held
    c.note-2.ensures.list

pub returns-clause-memo : goal.returns-clause-memo
returns-clause-memo t c =
    let pair : Pair = c.args.pair.now in
    let before : SplitMemo = c.gather-2.new.memo in
    let memo : SplitMemo = c.note-2.new.self in
    ok-both c.note-2.result (λ place. IsPlaced c.join.new.space c.args.level memo pair place) (λ place. (p : Pair) (k : ℕ) → IsNoted memo p k → ((p ≡ pair) × (k ≡ place)) ⊎ IsNoted before p k) (λ _. AreRight c.join.new.space c.args.level memo)
    (λ place at noted. right-later c.in_ok-pieces-2.ensures.grows c.in_ok-pieces-2.ensures.levels c.in_ok-hi.ensures.memo c.note-2.ensures.kept noted at)
    (returns-clause-ok t c)
    c.note-2.ensures.noted
