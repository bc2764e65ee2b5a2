use Rattle.std.proofs.Common.{◌≡◌, ◌∷◌, [], ℕ, List, Some, length, slice_get, refl, sym, ap, ◌∙◌, subst, length-append, arith}
use Rattle.node_table.proofs.Growth.{grows-trans}
use Rattle.bdd_walk.specs.declared.joins.Ends.{Ends}
use Rattle.bdd_walk.specs.declared.splits.Piece.{Piece}
use Rattle.bdd_walk.specs.Splitting.{AreOver}
use Rattle.bdd_walk.proofs.Joined.{ends-grow, over-made, over-push}
use Rattle.bdd_walk.proofs.joins.nodes_over.Goals as goal

pub mk-requires : goal.mk-requires
mk-requires c =
    let before = c.loop-left.invariant in
    let ends = ends-grow c.args.space.now c.loop-left.space before.grows before.levels c.args.level c.in-Some.both.now (c.requires c.in-Some.left.now c.in-Some.both.now c.in-Some.ensures.value) in
    record { lo = ends.lo; hi = ends.hi; lo_below = ends.lo_below; hi_below = ends.hi_below }

pub loop-left-preserved : goal.loop-left-preserved
loop-left-preserved c =
    let before = c.loop-left.invariant in
    let a = c.loop-left.space in
    let b = c.mk.new.self in
    let level : ℕ = c.args.level in
    let e : Ends = c.in-Some.both.now in
    let pieces : List Piece = c.loop-left.pieces.items in
    let entries : List (ℕ × Ends) = c.args.all.now.entries in
    let p : Piece = record { left = c.in-Some.left.now; at = c.in_ok-at.at } in
    let grow = c.in_ok-at.ensures.grows in
    let levels = c.in_ok-at.ensures.levels in
    let ends = ends-grow c.args.space.now a before.grows before.levels level e (c.requires c.in-Some.left.now e c.in-Some.ensures.value) in
    let place : c.len.result ≡ length pieces = omega (arith, c.len.ensures) in
    let at : slice_get entries (length pieces) ≡ Some (p.left, e) = ap (slice_get entries) (sym place) ∙ sym c.in-Some.ensures.entry in
    let P : List Piece → Type 0 = λ l. AreOver b level entries l in
    record {
      grows = grows-trans c.args.space.now a b before.grows grow;
      levels = levels ∙ before.levels;
      few =
          let more = ap length c.in_ok-push.ensures.pieces ∙ length-append pieces (p ∷ []) in
          let inside = c.in-Some.ensures.found.0 refl in
          omega (arith, more, inside, place);
      over = subst P (sym c.in_ok-push.ensures.pieces) (over-push a b grow levels level entries pieces p e before.over at c.in-Some.ensures.value (over-made a b grow levels level e c.in_ok-at.at ends c.in_ok-at.ensures.ok));
    }
