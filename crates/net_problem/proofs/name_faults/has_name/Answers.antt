use Rattle.std.proofs.Common.{◌∙◌, ap}
use Rattle.std.specs.Option.{is_some}
use Rattle.net_problem.proofs.NamesKnown.{has_place}
use Rattle.net_problem.proofs.name_faults.has_name.Goals as goal

pub returns : goal.returns
returns c = c.is_some.ensures ∙ (ap is_some c.find.ensures ∙ has_place c.args.names.now c.args.name.now)
