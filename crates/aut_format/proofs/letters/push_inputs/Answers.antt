use Rattle.std.proofs.Common.{rules, append_assoc}
use Rattle.aut_format.proofs.Joins.{join-cons}
use Rattle.aut_format.proofs.letters.push_inputs.Goals as goal

pub returns : goal.returns
returns c = rw join-cons (search (rules, append_assoc))
