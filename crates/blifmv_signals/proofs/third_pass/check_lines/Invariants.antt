use Rattle.std.proofs.Common.{◌≡◌, length}
use Rattle.lex_core.specs.LogicalLines.{logical_lines}
use Rattle.blifmv_signals.specs.Marked.{HasMarks, nothing_above, marked_fault}
use Rattle.blifmv_signals.proofs.third_pass.check_lines.Given as goal

abbrev pub invariant-loop-line : goal.invariant-loop-line
invariant-loop-line l = record {
  marks : HasMarks l.names l.above;
  fault : marked_fault l.names l.whole l.above l.lines ≡ marked_fault l.names l.whole (nothing_above l.names) (logical_lines l.bytes);
}

abbrev pub decreases-loop-line : goal.decreases-loop-line
decreases-loop-line l = length l.lines
