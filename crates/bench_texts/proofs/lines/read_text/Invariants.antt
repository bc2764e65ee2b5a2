use Rattle.std.proofs.Common.{◌≡◌, ◌+◌, length}
use Rattle.std.specs.Prelude.{sum_by}
use Rattle.lex_core.specs.LogicalLines.{logical_lines}
use Rattle.bench_texts.proofs.lines.read_text.Given as goal

-- what is counted, with what is left, is all
abbrev pub invariant-loop-line : goal.invariant-loop-line
invariant-loop-line l =
    (l.counts.lines + length l.lines ≡ length (logical_lines l.text))
    × (l.counts.words + sum_by (λ line. length line.words) l.lines ≡ sum_by (λ line. length line.words) (logical_lines l.text))
    × (l.counts.bytes ≡ length l.text)

abbrev pub decreases-loop-line : goal.decreases-loop-line
decreases-loop-line l = length l.lines
