use Rattle.std.proofs.Common.{◌≡◌, length}
use Rattle.std.specs.List.{list_any}
use Rattle.net_model.specs.Forms.{is_mark}
use Rattle.blifmv_lines.specs.Said.{texts}
use Rattle.blifmv_lines.proofs.signs.has_mark.Given as goal

abbrev pub invariant-loop-left : goal.invariant-loop-left
invariant-loop-left l = list_any is_mark (texts l.left) ≡ list_any is_mark (texts l.words)

abbrev pub decreases-loop-left : goal.decreases-loop-left
decreases-loop-left l = length l.left
