use Rattle.std.proofs.Common.{refl}
use Rattle.automata_tests.proofs.Asking.{constant-asks}
use Rattle.automata_tests.proofs.drawing.+asks_between.Goals as goal

pub returns-in_default : goal.returns-in_default
returns-in_default t c is =
    constant-asks c.args.space.now c.args.first c.args.end c.args.r (c.in_default.ensures.constant.0 refl)
