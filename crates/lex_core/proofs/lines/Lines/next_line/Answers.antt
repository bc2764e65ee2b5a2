use Rattle.std.proofs.Common.{◌∷◌, ◌∙◌, sym, ap, arith}
use Rattle.lex_core.specs.Forward.{line_at}
use Rattle.lex_core.proofs.Fronts.{line_comes, line_skipped}
use Rattle.lex_core.proofs.lines.Lines.next_line.Goals as goal

pub returns-then-passed-clause-line : goal.returns-then-passed-clause-line
returns-then-passed-clause-line c =
    let comes = line_comes c.loop-self.self-inside.number c.loop-self.self-inside.start c.loop-self.self-inside.rest.now (sym c.pass_line-passed.ensures.word ∙ c.if-passed.true) in
    sym c.loop-self.invariant.lines ∙ (comes ∙ rw c.at-line.ensures (ap (λ rest. line_at c.loop-self.self-inside.number c.loop-self.self-inside.start c.loop-self.self-inside.rest.now ∷ rest) (sym c.pass_line-passed.ensures.lines)))

pub loop-self-preserved : goal.loop-self-preserved
loop-self-preserved c =
    let skipped = line_skipped c.loop-self.self-inside.number c.loop-self.self-inside.start c.loop-self.self-inside.rest.now (sym c.pass_line-passed.ensures.word ∙ c.if-passed.false) in
    record {
      lines = c.pass_line-passed.ensures.lines ∙ (sym skipped ∙ c.loop-self.invariant.lines);
      place = omega arith;
      number = omega arith;
    }
