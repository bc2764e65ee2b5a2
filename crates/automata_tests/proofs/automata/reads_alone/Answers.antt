use Rattle.std.proofs.Common.{◌<◌, [], false, length, refl, sym, subst, arith}
use Rattle.det_core.specs.Automata.{AreGuardsValid}
use Rattle.automata_tests.proofs.Ruling.{reads-next}
use Rattle.automata_tests.proofs.automata.reads_alone.Goals as goal

pub moves_ask-requires : goal.moves_ask-requires
moves_ask-requires c =
    let within : c.loop-state.state < length c.args.det.now = omega (arith, c.loop-state-test.true, c.states-state-end.ensures.states) in
    subst (AreGuardsValid c.args.space.now) (sym c.moves.ensures.moves) (c.requires.rule c.loop-state.state (record { accepting = false; moves = [] }) within).valid

pub loop-state-preserved : goal.loop-state-preserved
loop-state-preserved c =
    let within : c.loop-state.state < length c.args.det.now = omega (arith, c.loop-state-test.true, c.states-state-end.ensures.states) in
    reads-next c.args.space.now c.args.letters.now c.args.det.now c.loop-state.state c.bits.result c.moves.result.now c.requires.first c.bits.ensures.bits within c.moves.ensures.moves (c.if-not-moves_ask.ensures refl) c.loop-state.invariant
