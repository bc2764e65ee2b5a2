use Rattle.std.proofs.Common.{◌∙◌}
use Rattle.table_parts.proofs.Spelled.{laid-later}
use Rattle.machine_parts.proofs.Levels.{code-later}
use Rattle.machine_parts.proofs.part.values_part.Goals as goal

pub valid-requires-2 : goal.valid-requires-2
valid-requires-2 c = code-later c.args.space.now c.valid.new.space c.args.present.now c.in_ok-to.ensures.levels c.requires.present_laid

pub all_values-requires : goal.all_values-requires
all_values-requires c =
    laid-later c.args.space.now c.and.new.space c.args.columns.now (c.in_ok-states.ensures.levels ∙ (c.in_ok-from.ensures.levels ∙ c.in_ok-to.ensures.levels)) c.requires.laid
