use Rattle.std.proofs.Common.{◌∙◌, sym}
use Rattle.kiss_reader.proofs.Begins.{first_word}
use Rattle.kiss_reader.proofs.begin.begins_with_directive.Goals as goal

pub returns : goal.returns
returns c = c.is_machine_word.ensures ∙ sym (first_word c.args.line.now.words c.in-Some.word.now c.in-Some.ensures)
