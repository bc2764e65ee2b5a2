use Rattle.std.proofs.Common.{◌∙◌, ap}
use Rattle.std.specs.Prelude.{is_some}
use Rattle.name_table.proofs.Found.{has_place}
use Rattle.kiss_reader.proofs.states.has_state.Goals as goal

pub returns : goal.returns
returns c = c.is_some.ensures ∙ (ap is_some c.find.ensures ∙ has_place c.args.states.now c.args.name.now)
