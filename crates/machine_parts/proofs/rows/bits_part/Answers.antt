use Rattle.std.proofs.Common.{◌-◌, arith}
use Rattle.mv_encoding.specs.Layouts.{Layout, IsLaid}
use Rattle.table_parts.proofs.Spelled.{all-read}
use Rattle.machine_parts.proofs.Levels.{code-later}
use Rattle.machine_parts.proofs.rows.bits_part.Goals as goal

pub bit_part-requires-clause-laid : goal.bit_part-requires-clause-laid
bit_part-requires-clause-laid c =
    code-later c.args.space.now c.loop-place.space c.index-columns-place.result c.loop-place.invariant.levels
    (all-read (λ (s : Layout). IsLaid s c.args.space.now) c.args.columns.now (c.loop-place.place - 1) c.index-columns-place.result c.requires.laid (omega (arith, c.loop-place.auto.place, c.loop-place-test.true, c.requires.width)) c.index-columns-place.is)
