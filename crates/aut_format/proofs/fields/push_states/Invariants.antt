use Rattle.std.proofs.Common.{◌≡◌, ◌++◌, map}
use Rattle.std.specs.List.{range_with_len}
use Rattle.net_model.specs.Printed.{state_name}
use Rattle.aut_format.specs.Fields.{blank_before}
use Rattle.aut_format.proofs.fields.push_states.Given as goal

abbrev pub invariant-loop-state : goal.invariant-loop-state
invariant-loop-state l = l.text.items ≡ l.initial.text.items ++ blank_before (map state_name (range_with_len 0 l.state))
