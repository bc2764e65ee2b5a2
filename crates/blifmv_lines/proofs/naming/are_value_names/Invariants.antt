use Rattle.std.proofs.Common.{◌≡◌, length}
use Rattle.std.specs.List.{list_all}
use Rattle.net_model.specs.Forms.{is_value_name}
use Rattle.blifmv_lines.specs.Said.{texts}
use Rattle.blifmv_lines.proofs.naming.are_value_names.Given as goal

abbrev pub invariant-loop-left : goal.invariant-loop-left
invariant-loop-left l = list_all is_value_name (texts l.left) ≡ list_all is_value_name (texts l.words)

abbrev pub decreases-loop-left : goal.decreases-loop-left
decreases-loop-left l = length l.left
