use Rattle.std.proofs.Common.{◌≡◌, ◌<◌, ◌+◌, ◌-◌, ◌*◌, ◌^◌, ◌∙◌, min, length, get_or, arith}
use Rattle.std.proofs.lemmas.List.{take_rest}
use Rattle.blifmv_lines.proofs.Saturated.{number_from-step}
use Rattle.blifmv_lines.proofs.number.number_of.Goals as goal

pub loop-left-preserved : goal.loop-left-preserved
loop-left-preserved c =
    let some : 0 < length c.loop-left.left.now = omega arith in
    let rest = take_rest c.loop-left.left.now 1 in
    let next : c.saturating_add-number.result ≡ min (10 * c.loop-left.number + (get_or c.loop-left.left.now 0 0 - 48)) (2 ^ 64 - 1) = omega arith in
    record {
      number = number_from-step c.loop-left.number _ (2 ^ 64 - 1) c.loop-left.left.now _ some rest next ∙ c.loop-left.invariant.number;
      fits = omega arith;
    }
