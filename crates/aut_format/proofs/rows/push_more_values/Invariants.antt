use Rattle.std.proofs.Common.{◌≡◌, ◌++◌, [], drop, map}
use Rattle.net_model.specs.Printed.{value_name}
use Rattle.aut_format.specs.Fields.{comma_before}
use Rattle.aut_format.proofs.rows.push_more_values.Given as goal

abbrev pub invariant-loop-value : goal.invariant-loop-value
invariant-loop-value l =
    l.text.items ++ comma_before (map (value_name (record { name = []; values = l.domain })) (drop l.value-index l.values)) ≡ l.initial.text.items ++ comma_before (map (value_name (record { name = []; values = l.domain })) l.values)
