use Rattle.std.proofs.Common.{◌≡◌, ◌≤◌, length}
use Rattle.blifmv_lines.specs.Said.{texts, listed_names}
use Rattle.blifmv_names.specs.Signals.{all_mentioned}
use Rattle.blifmv_names.proofs.mention.mention_listed.Given as goal

abbrev pub invariant-loop-name : goal.invariant-loop-name
invariant-loop-name l = record {
  wanted : all_mentioned l.signals l.left ≡ all_mentioned l.fn.signals (listed_names (texts l.names));
  few : length l.signals ≤ 4096;
}

abbrev pub decreases-loop-name : goal.decreases-loop-name
decreases-loop-name l = length l.left
