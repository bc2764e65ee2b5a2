use Rattle.std.proofs.Common.{None}
use Rattle.relation_tests.proofs.frames.letters_of.Goals as goal

pub valid-requires : goal.valid-requires
valid-requires c = c.letters_are_laid.ensures c.args.space.now c.args.problem.now None c.args.frame.now c.mode-mode.ensures.built c.requires c.args.slot
