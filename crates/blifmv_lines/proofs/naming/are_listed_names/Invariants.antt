use Rattle.std.proofs.Common.{◌≡◌, length}
use Rattle.std.specs.List.{list_all}
use Rattle.net_model.specs.Forms.{is_name}
use Rattle.blifmv_lines.specs.Said.{texts, listed_names}
use Rattle.blifmv_lines.proofs.naming.are_listed_names.Given as goal

abbrev pub invariant-loop-name : goal.invariant-loop-name
invariant-loop-name l = list_all is_name l.names ≡ list_all is_name (listed_names (texts l.words))

abbrev pub decreases-loop-name : goal.decreases-loop-name
decreases-loop-name l = length l.names
