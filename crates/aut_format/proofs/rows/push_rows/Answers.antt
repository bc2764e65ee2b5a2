use Rattle.std.proofs.Common.{List, sym, subst}
use Rattle.det_core.specs.declared.det.Move.{Move}
use Rattle.det_core.specs.Automata.{AreGuardsValid}
use Rattle.det_core.proofs.Encodings.{guards-at}
use Rattle.aut_format.proofs.rows.push_rows.Goals as goal

pub push_moves-requires : goal.push_moves-requires
push_moves-requires c =
    subst (λ (moves : List Move). AreGuardsValid c.args.space.now moves) (sym c.moves.ensures.moves) (guards-at c.args.space.now c.args.det.now c.requires c.loop-state.state)
