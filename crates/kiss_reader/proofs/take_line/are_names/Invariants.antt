use Rattle.std.proofs.Common.{◌≡◌, length}
use Rattle.std.specs.List.{list_all}
use Rattle.net_model.specs.Forms.{is_name}
use Rattle.blifmv_lines.specs.Said.{texts}
use Rattle.kiss_reader.proofs.take_line.are_names.Given as goal

abbrev pub invariant-loop-left : goal.invariant-loop-left
invariant-loop-left l = list_all is_name (texts l.left) ≡ list_all is_name (texts l.words)

abbrev pub decreases-loop-left : goal.decreases-loop-left
decreases-loop-left l = length l.left
