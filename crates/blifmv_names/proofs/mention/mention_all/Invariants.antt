use Rattle.std.proofs.Common.{◌≡◌, ◌≤◌, length}
use Rattle.blifmv_lines.specs.Said.{texts}
use Rattle.blifmv_names.specs.Signals.{all_mentioned}
use Rattle.blifmv_names.proofs.mention.mention_all.Given as goal

abbrev pub invariant-loop-left : goal.invariant-loop-left
invariant-loop-left l = record {
  wanted : all_mentioned l.signals (texts l.left) ≡ all_mentioned l.fn.signals (texts l.names);
  few : length l.signals ≤ 4096;
}

abbrev pub decreases-loop-left : goal.decreases-loop-left
decreases-loop-left l = length l.left
