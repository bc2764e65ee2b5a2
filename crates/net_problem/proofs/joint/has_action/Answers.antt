use Rattle.std.proofs.Common.{◌∙◌, ap}
use Rattle.std.specs.Option.{is_some}
use Rattle.net_problem.proofs.NamesKnown.{has_place}
use Rattle.net_problem.proofs.joint.has_action.Goals as goal

pub returns : goal.returns
returns c = c.is_some.ensures ∙ (ap is_some c.value_index.ensures ∙ has_place c.args.actions.now c.args.name.now)
