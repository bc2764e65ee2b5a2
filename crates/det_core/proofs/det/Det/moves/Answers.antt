use Rattle.std.proofs.Common.{◌<◌, List, length, ap, ◌∙◌, sym, subst, arith}
use Rattle.det_core.specs.declared.det.Move.{Move}
use Rattle.det_core.specs.Automata.{State, states_of, TargetsBelow}
use Rattle.det_core.proofs.Words.{held-at, states-length, targets-at}
use Rattle.det_core.proofs.det.Det.moves.Goals as goal

pub returns-clause-targets : goal.returns-clause-targets
returns-clause-targets c =
    let Below : List Move → Type 0 = λ moves. TargetsBelow (length c.args.self.now) moves in
    let Whole : List State → Type 0 = λ det. TargetsBelow (length det) c.deref.result.now in
    let within : c.args.state < length (states_of c.self.inside.held.items) = subst (λ det. c.args.state < length det) (sym c.self.view_is) c.requires in
    let here = held-at c.self.inside.held.items c.args.state c.index.result.now (omega (arith, within, states-length c.self.inside.held.items)) c.index.ensures in
    subst Whole c.self.view_is
    (subst (λ moves. TargetsBelow (length (states_of c.self.inside.held.items)) moves) (ap (λ s. s.moves) here ∙ sym c.deref.ensures.value)
    (targets-at (states_of c.self.inside.held.items) c.args.state c.self.invariant within))
