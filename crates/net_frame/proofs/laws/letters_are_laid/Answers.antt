use Rattle.net_frame.proofs.Laid.{letters-laid}
use Rattle.net_frame.proofs.laws.letters_are_laid.Goals as goal

pub returns : goal.returns
returns c = letters-laid
