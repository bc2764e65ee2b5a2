use Rattle.std.proofs.Common.{◌∙◌, ap}
use Rattle.std.specs.Prelude.{is_some}
use Rattle.name_table.proofs.Found.{has_place}
use Rattle.name_table.proofs.name_set.NameSet.has.Goals as goal

pub returns : goal.returns
returns c = c.is_some.ensures ∙ (ap is_some c.find.ensures ∙ has_place c.args.self.now c.args.name.now)
