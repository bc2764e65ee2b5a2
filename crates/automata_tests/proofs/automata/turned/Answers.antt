use Rattle.std.proofs.Common.{sym, subst}
use Rattle.det_core.specs.Automata.{MeetsRule}
use Rattle.det_core.specs.Languages.{letters_of}
use Rattle.automata_tests.proofs.Ruling.{rule-turned}
use Rattle.automata_tests.proofs.automata.turned.Goals as goal

pub returns : goal.returns
returns c =
    let letters = letters_of c.args.letters.now in
    subst (MeetsRule c.args.space.now letters) (sym c.complement.ensures.states) (rule-turned c.args.space.now letters c.args.det c.requires)
