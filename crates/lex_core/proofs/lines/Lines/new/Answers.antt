use Rattle.lex_core.proofs.Agreement.{lines_at-text}
use Rattle.lex_core.proofs.lines.Lines.new.Goals as goal

-- reading forward gives the logical lines
pub returns : goal.returns
returns c = lines_at-text c.args.bytes.now
