use Rattle.std.proofs.Common.{◌≡◌, length}
use Rattle.net_model.specs.NetTexts.{distinct}
use Rattle.blifmv_lines.specs.Said.{texts}
use Rattle.blifmv_tables.proofs.draft.add_names.Given as goal

abbrev pub invariant-loop-left : goal.invariant-loop-left
invariant-loop-left l = distinct l.names (texts l.left) ≡ distinct l.fn.names (texts l.words)

abbrev pub decreases-loop-left : goal.decreases-loop-left
decreases-loop-left l = length l.left
