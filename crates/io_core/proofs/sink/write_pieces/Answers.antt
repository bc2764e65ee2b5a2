use Rattle.std.proofs.Common.{arith}
use Rattle.io_core.proofs.Pieces.{front_of_pieces, on_any_err}
use Rattle.io_core.proofs.sink.write_pieces.Goals as goal

pub returns-in_err-write_all-clause-refused : goal.returns-in_err-write_all-clause-refused
returns-in_err-write_all-clause-refused g c =
    let sink = g.O.Sink in
    on_any_err c.from_residual.result
    (front_of_pieces (sink.contents c.args.sink.now) (sink.contents c.loop-piece.sink) _ c.args.pieces.now c.loop-piece.piece-index _ (omega (arith, c.loop-piece-test.true)) c.loop-piece.invariant.so_far c.in_err-write_all.ensures.refused)
