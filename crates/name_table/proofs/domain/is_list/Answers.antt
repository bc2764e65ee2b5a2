use Rattle.name_table.proofs.Shown.{are_same-Decides}
use Rattle.name_table.proofs.domain.is_list.Goals as goal

pub returns : goal.returns
returns c = are_same-Decides c.args.names.now c.args.others.now _ c.is_same.ensures
