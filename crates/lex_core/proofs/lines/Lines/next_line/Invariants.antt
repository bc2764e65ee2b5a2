use Rattle.std.proofs.Common.{◌≡◌, ◌+◌, ◌<◌, ◌^◌, length}
use Rattle.lex_core.specs.Forward.{lines_at}
use Rattle.lex_core.proofs.lines.Lines.next_line.Given as goal

abbrev pub invariant-loop-self : goal.invariant-loop-self
invariant-loop-self l = record {
  lines : lines_at l.self-inside.number l.self-inside.start l.self-inside.rest.now ≡ l.fn.self;
  place : l.self-inside.start + length l.self-inside.rest.now < 2 ^ 64;
  number : l.self-inside.number + length l.self-inside.rest.now < 2 ^ 64;
}

abbrev pub decreases-loop-self : goal.decreases-loop-self
decreases-loop-self l = length l.self-inside.rest.now
