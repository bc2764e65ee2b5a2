use Rattle.std.proofs.Common.{◌-◌, arith}
use Rattle.mv_encoding.specs.Layouts.{Layout, IsLaid}
use Rattle.table_parts.proofs.Spelled.{all-read, laid-later}
use Rattle.table_parts.proofs.part.column_values.Goals as goal

pub valid-requires : goal.valid-requires
valid-requires c =
    all-read (λ (s : Layout). IsLaid s c.loop-place.space) c.args.signals.now _ c.index-signals-columns.result
    (laid-later c.args.space.now c.loop-place.space c.args.signals.now c.loop-place.invariant.levels c.requires.laid)
    (c.requires.columns (c.loop-place.place - 1) (record { 0 = 0 }) (omega (arith, c.loop-place.auto.place, c.loop-place-test.true))) c.index-signals-columns.is
