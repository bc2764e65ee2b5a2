use Rattle.det_core.specs.Languages.{letters_of}
use Rattle.automata_tests.proofs.Ruling.{guards-valid}
use Rattle.automata_tests.proofs.codes.refuses_to_encode.Goals as goal

pub steps_of-requires : goal.steps_of-requires
steps_of-requires c =
    guards-valid c.det_of.new.space (letters_of c.in_ok-space.letters) c.in_ok-det.det c.in_ok-det.ensures.rule
