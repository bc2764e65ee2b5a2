use Rattle.std.proofs.Common.{refl}
use Rattle.net_model.specs.Machines.{machine_of}
use Rattle.machine_parts.proofs.Levels.{coded-later}
use Rattle.machine_parts.proofs.Placed.{are-coded, rows-over}
use Rattle.machine_parts.proofs.part.machine_part.Goals as goal

pub rows_part-requires-clause-coded : goal.rows_part-requires-clause-coded
rows_part-requires-clause-coded c =
    are-coded c.args.space.now c.args.columns.now c.args.present.now c.args.next.now (machine_of c.args.machine.now) c.requires.sound c.requires.placed

pub rows_part-requires-clause-rows : goal.rows_part-requires-clause-rows
rows_part-requires-clause-rows c =
    rows-over c.args.space.now c.args.columns.now c.args.present.now c.args.next.now (machine_of c.args.machine.now) c.requires.sound c.requires.placed c.args.machine.now.rows.items c.deref.result.now refl c.deref.ensures.value

pub values_part-requires : goal.values_part-requires
values_part-requires c =
    coded-later c.args.space.now c.rows_part.new.space c.args.columns.now c.args.present.now c.args.next.now c.in_ok-steps.ensures.levels
    (are-coded c.args.space.now c.args.columns.now c.args.present.now c.args.next.now (machine_of c.args.machine.now) c.requires.sound c.requires.placed)
