use Rattle.std.proofs.Common.{◌∙◌}
use Rattle.machine_parts.proofs.Levels.{code-later}
use Rattle.machine_parts.proofs.rows.row_part.Goals as goal

pub state_part-requires-clause-laid : goal.state_part-requires-clause-laid
state_part-requires-clause-laid c = code-later c.args.space.now c.letter_part.new.space c.args.next.now c.in_ok-letter.ensures.levels c.requires.coded.next_laid

pub state_part-requires-2-clause-laid : goal.state_part-requires-2-clause-laid
state_part-requires-2-clause-laid c = code-later c.args.space.now c.state_part.new.space c.args.present.now (c.in_ok-to.ensures.levels ∙ c.in_ok-letter.ensures.levels) c.requires.coded.present_laid
