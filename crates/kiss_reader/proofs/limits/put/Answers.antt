use Rattle.std.proofs.Common.{◌∙◌, ap, sym}
use Rattle.std.specs.Prelude.{is_some}
use Rattle.name_table.proofs.Found.{has_place}
use Rattle.kiss_reader.proofs.Names.{name_there}
use Rattle.kiss_reader.proofs.limits.put.Goals as goal

pub returns-then-is_some : goal.returns-then-is_some
returns-then-is_some c =
    name_there c.args.set.now c.args.name.now
    (sym (has_place c.args.set.now c.args.name.now) ∙ (ap is_some (sym c.find.ensures) ∙ (sym c.is_some.ensures ∙ c.if-is_some.true)))
