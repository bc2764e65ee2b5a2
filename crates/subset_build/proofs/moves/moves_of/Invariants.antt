use Rattle.node_table.specs.Table.{value_at}
use Rattle.subset_build.specs.Tables.{Extends, AreLeft}
use Rattle.subset_build.specs.Placing.{ArePlaced}
use Rattle.subset_build.proofs.moves.moves_of.Given as goal

abbrev pub invariant-loop-piece : goal.invariant-loop-piece
invariant-loop-piece l = record {
  extends : Extends l.fn.sets l.sets;
  came : AreLeft l.space (value_at l.fn.space l.fn.valid) l.level l.fn.image l.fn.sets l.sets;
  placed : ArePlaced l.sets l.piece-items l.piece-index l.moves.items;
}
