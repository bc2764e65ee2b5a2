use Rattle.std.proofs.Common.{rules, arith, ◌≡◌, map, slice_get, Some}
use Rattle.bench_texts.proofs.Totals.{one_more}
use Rattle.bench_texts.proofs.domains.values_of.Goals as goal

pub loop-number-preserved : goal.loop-number-preserved
loop-number-preserved c =
    let at : slice_get (map (λ v. v.values) c.args.names.now) c.loop-number.number ≡ Some c.in_ok-domain.domain.now = search rules in
    let more = one_more (map (λ v. v.values) c.args.names.now) c.loop-number.number c.in_ok-domain.domain.now at in
    (omega (arith, more, c.loop-number.invariant.0, c.len.ensures.len), omega (arith, c.loop-number.invariant.1, c.len.ensures.len, c.len.ensures.good.few))
