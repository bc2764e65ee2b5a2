use Rattle.std.proofs.Common.{◌&&◌, ◌-◌, ◌∙◌, Err, sym, ap, subst, arith}
use Rattle.std.proofs.lemmas.Result.{err_from_is_err_and}
use Rattle.node_table.specs.Table.{Table, value_at}
use Rattle.mv_encoding.specs.Layouts.{Layout, IsLaid}
use Rattle.mv_encoding.proofs.ShortValues.{one-short, rest-short}
use Rattle.mv_encoding.proofs.spots.all_values.Goals as goal

pub valid-requires : goal.valid-requires
valid-requires c k within =
    let P : Layout → Type 0 = λ spot. IsLaid spot c.args.space.now in
    let laid = subst P (sym c.index-spots-place.is) (c.requires (c.loop-place.place - 1) c.index-spots-place.result (omega (arith, c.loop-place.auto.place, c.loop-place-test.true))) in
    omega (arith, laid k within, c.loop-place.invariant.levels)

pub returns-in_err-value-clause-needed : goal.returns-in_err-value-clause-needed
returns-in_err-value-clause-needed c full =
    let back = err_from_is_err_and c.from_residual.result c.from_residual.ensures.1 in
    one-short c.valid.new.space c.args.spots.now c.loop-place.place c.index-spots-place.result c.index-spots-place.is (omega (arith, c.loop-place-test.true)) (omega (arith, c.loop-place.auto.place))
    (c.in_err-value.ensures.needed (ap Err (sym back.2) ∙ sym back.1 ∙ full))

pub returns-in_err-values-clause-needed : goal.returns-in_err-values-clause-needed
returns-in_err-values-clause-needed c full =
    let back = err_from_is_err_and c.from_residual-in_err-values.result c.from_residual-in_err-values.ensures.1 in
    let old : Table = c.valid.new.space in
    let value = c.in_ok-value.ensures.ok in
    let kept = c.in_ok-value.ensures.grows.value c.loop-place.values c.loop-place.invariant.stands.valid.held in
    rest-short c.and.new.space c.args.spots.now c.loop-place.place c.index-spots-place.result c.index-spots-place.is (omega (arith, c.loop-place-test.true)) (omega (arith, c.loop-place.auto.place))
    (λ bits. value_at old c.in_ok-value.value bits && value_at old c.loop-place.values bits)
    (λ bits i. value.value bits i && (kept bits ∙ c.loop-place.invariant.stands.value bits) i)
    (c.in_err-values.ensures.needed (ap Err (sym back.2) ∙ sym back.1 ∙ full))
