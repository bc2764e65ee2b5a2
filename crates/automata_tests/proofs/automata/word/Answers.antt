use Rattle.automata_tests.proofs.Ruling.{word-next}
use Rattle.automata_tests.proofs.automata.word.Goals as goal

pub loop-value-preserved : goal.loop-value-preserved
loop-value-preserved c =
    word-next c.args.scope.now c.loop-value.letters.items c.push.new.self.items c.in_ok-letter.letter c.in_ok-push.ensures.items c.loop-value.invariant c.in_ok-letter.ensures
