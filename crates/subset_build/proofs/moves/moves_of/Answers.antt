use Rattle.std.proofs.Common.{◌≡◌, ◌+◌, List, length, refl, sym, subst, arith}
use Rattle.node_table.specs.Table.{value_at}
use Rattle.bdd_walk.specs.Splits.{IsSplit}
use Rattle.det_core.specs.declared.det.Move.{Move}
use Rattle.subset_build.specs.Placing.{ArePlaced}
use Rattle.subset_build.proofs.Pieces.{extends-more, placed-next, came-next, moves-are}
use Rattle.subset_build.proofs.moves.moves_of.Goals as goal

pub loop-piece-preserved : goal.loop-piece-preserved
loop-piece-preserved c =
    let t = c.split.new.space in
    let letters = value_at c.args.space.now c.args.valid in
    let pieces = c.deref-piece-items.result.now in
    let split : IsSplit t c.args.level c.args.image c.args.valid pieces = subst (λ list. IsSplit t c.args.level c.args.image c.args.valid list) (sym c.deref-piece-items.ensures.value) c.in_ok-pieces.ensures.ok in
    let Placed : List Move → Type 0 = λ moves. ArePlaced c.number_of.new.self pieces (c.loop-piece.piece-index + 1) moves in
    record {
      extends = extends-more c.args.sets.now c.loop-piece.sets c.number_of.new.self c.loop-piece.invariant.extends c.in-Ok.ensures.ok.extends;
      came =
          came-next t letters c.args.level c.args.image c.args.valid pieces split (λ u. c.in_ok-pieces.ensures.grows.value c.args.valid c.requires.valid.held u)
          c.args.sets.now c.loop-piece.sets c.number_of.new.self c.loop-piece.piece-index c.piece-item.result c.in-Ok.target c.loop-piece-test.true c.piece-item.is c.loop-piece.invariant.extends.longer c.loop-piece.invariant.came c.in-Ok.ensures.ok;
      placed = subst Placed (sym c.in_ok-add.ensures.ok)
          (placed-next c.loop-piece.sets c.number_of.new.self pieces c.loop-piece.piece-index c.loop-piece.moves.items c.piece-item.result (record { guard = c.piece-item.result.at; target = c.in-Ok.target }) c.loop-piece-test.true c.piece-item.is c.loop-piece.invariant.placed c.in-Ok.ensures.ok refl);
    }

pub returns-in_err-add-clause-came : goal.returns-in_err-add-clause-came
returns-in_err-add-clause-came c =
    let t = c.split.new.space in
    let pieces = c.deref-piece-items.result.now in
    let split : IsSplit t c.args.level c.args.image c.args.valid pieces = subst (λ list. IsSplit t c.args.level c.args.image c.args.valid list) (sym c.deref-piece-items.ensures.value) c.in_ok-pieces.ensures.ok in
    came-next t (value_at c.args.space.now c.args.valid) c.args.level c.args.image c.args.valid pieces split (λ u. c.in_ok-pieces.ensures.grows.value c.args.valid c.requires.valid.held u)
    c.args.sets.now c.loop-piece.sets c.number_of.new.self c.loop-piece.piece-index c.piece-item.result c.in-Ok.target c.loop-piece-test.true c.piece-item.is c.loop-piece.invariant.extends.longer c.loop-piece.invariant.came c.in-Ok.ensures.ok

pub returns-clause-ok : goal.returns-clause-ok
returns-clause-ok c =
    let t = c.split.new.space in
    let pieces = c.deref-piece-items.result.now in
    let split : IsSplit t c.args.level c.args.image c.args.valid pieces = subst (λ list. IsSplit t c.args.level c.args.image c.args.valid list) (sym c.deref-piece-items.ensures.value) c.in_ok-pieces.ensures.ok in
    let all : c.loop-piece.piece-index ≡ length pieces = omega (arith, c.loop-piece-test.false, c.loop-piece.auto.piece-index-end) in
    moves-are t (value_at c.args.space.now c.args.valid) c.args.level c.args.image c.args.valid pieces split (λ u. c.in_ok-pieces.ensures.grows.value c.args.valid c.requires.valid.held u) c.loop-piece.sets c.loop-piece.moves.items
    (subst (λ n. ArePlaced c.loop-piece.sets pieces n c.loop-piece.moves.items) all c.loop-piece.invariant.placed)
