use Rattle.table_parts.proofs.Spelled.{laid-later}
use Rattle.table_parts.proofs.Known.{ins-known, outs-known, rows-known}
use Rattle.table_parts.proofs.part.held_part.Goals as goal

pub rows_allowing-requires-clause-ins : goal.rows_allowing-requires-clause-ins
rows_allowing-requires-clause-ins c = ins-known c.args.signals.now c.args.table.now c.requires.table c.deref.result.now c.deref.ensures.value

pub rows_allowing-requires-clause-outs : goal.rows_allowing-requires-clause-outs
rows_allowing-requires-clause-outs c = outs-known c.args.signals.now c.args.table.now c.requires.table c.deref-2.result.now c.deref-2.ensures.value

pub rows_allowing-requires-clause-rows : goal.rows_allowing-requires-clause-rows
rows_allowing-requires-clause-rows c =
    rows-known c.args.signals.now c.args.table.now c.requires.table c.deref.result.now c.deref-2.result.now c.deref-3.result.now c.deref.ensures.value c.deref-2.ensures.value c.deref-3.ensures.value

pub default_part-requires-clause-laid : goal.default_part-requires-clause-laid
default_part-requires-clause-laid c = laid-later c.args.space.now c.rows_allowing.new.space c.args.signals.now c.in_ok-allowed.ensures.levels c.requires.laid
