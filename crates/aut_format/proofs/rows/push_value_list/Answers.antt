use Rattle.std.proofs.Common.{map, []}
use Rattle.net_model.specs.Printed.{value_name}
use Rattle.aut_format.proofs.Written.{list_written}
use Rattle.aut_format.proofs.rows.push_value_list.Goals as goal

pub returns : goal.returns
returns c =
    let name = value_name (record { name = []; values = c.args.domain.now }) in
    list_written c.args.text.now.items _ _ _ _ (name c.args.first) (map name c.args.more.now) c.in_ok-push.ensures.items c.in_ok-push_value.ensures c.in_ok-push_more_values.ensures c.in_ok-push-2.ensures.items
