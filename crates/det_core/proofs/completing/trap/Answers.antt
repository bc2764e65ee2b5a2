use Rattle.std.proofs.Common.{◌∙◌, List, false, sym, subst}
use Rattle.std.proofs.lemmas.Bool.{eqb-true}
use Rattle.node_table.specs.Table.{value_at}
use Rattle.det_core.specs.declared.det.Move.{Move}
use Rattle.det_core.specs.Filling.{IsLast}
use Rattle.det_core.proofs.Completions.{last-none}
use Rattle.det_core.proofs.completing.trap.Goals as goal

pub returns-then-eq-clause-last : goal.returns-then-eq-clause-last
returns-then-eq-clause-last c =
    let Last : List Move → Type 0 = λ moves. IsLast c.args.space.now (value_at c.args.space.now c.args.valid) c.args.number (record { accepting = false; moves = moves }) in
    subst Last (sym c.new-moves.ensures.items) (last-none c.args.space.now c.args.valid c.args.number c.requires (eqb-true c.args.valid 0 (sym c.eq.ensures ∙ c.if-eq.true)))
