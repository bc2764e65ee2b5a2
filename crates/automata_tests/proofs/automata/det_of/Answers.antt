use Rattle.std.proofs.Common.{sym, subst, arith}
use Rattle.node_table.proofs.Growth.{grows-trans}
use Rattle.det_core.specs.Automata.{MeetsRule}
use Rattle.det_core.specs.Languages.{letters_of}
use Rattle.det_core.proofs.Completions.{stands-grows}
use Rattle.automata_tests.proofs.Ruling.{rule-next, targets-next, count-next}
use Rattle.automata_tests.proofs.automata.det_of.Goals as goal

pub loop-single-preserved : goal.loop-single-preserved
loop-single-preserved c =
    let before = c.loop-single.invariant in
    let grow = c.in_ok-moves.ensures.grows in
    record {
      letters = stands-grows c.loop-single.space c.moves_by.new.space grow c.args.valid (letters_of c.args.letters.now) before.letters;
      rule = rule-next c.loop-single.states.items _ c.in_ok-put.ensures before.rule grow c.in_ok-moves.ensures.rule;
      targets = targets-next c.loop-single.states.items _ c.in_ok-put.ensures before.targets c.in_ok-moves.ensures.targets (omega (arith, c.if-single-singles.false));
      count = count-next c.loop-single.states.items _ c.in_ok-put.ensures before.count;
      grows = grows-trans c.args.space.now c.loop-single.space c.moves_by.new.space before.grows grow;
    }

pub returns-clause-rule : goal.returns-clause-rule
returns-clause-rule c =
    subst (MeetsRule c.loop-single.space (letters_of c.args.letters.now)) (sym c.of.ensures) c.loop-single.invariant.rule
