use Rattle.det_core.specs.Languages.{letters_of}
use Rattle.automata_tests.proofs.Ruling.{guards-valid}
use Rattle.automata_tests.proofs.codes.has_steps.Goals as goal

pub steps_of-requires : goal.steps_of-requires
steps_of-requires c =
    guards-valid c.whole_of.new.space (letters_of c.args.letters.now) c.in_ok-whole.whole c.in_ok-whole.ensures
