use Rattle.std.proofs.Common.{◌≡◌, ◌≤◌, length}
use Rattle.net_model.specs.NetTexts.{distinct}
use Rattle.blifmv_lines.specs.Said.{texts}
use Rattle.kiss_reader.proofs.limits.put_all.Given as goal

abbrev pub invariant-loop-left : goal.invariant-loop-left
invariant-loop-left l = record {
  wanted : distinct l.set (texts l.left) ≡ distinct l.fn.set (texts l.names);
  few : length l.set ≤ l.most;
}

abbrev pub decreases-loop-left : goal.decreases-loop-left
decreases-loop-left l = length l.left
