use Rattle.std.proofs.Common.{◌≡◌, ◌++◌, ◌∷◌, [], ◌∙◌, Some, length, take, slice_get, sym, ap, arith}
use Rattle.std.proofs.lemmas.List.{append_assoc, length-append, length-take-le, take_all}
use Rattle.std.proofs.lemmas.List.FromFn.{length-range_with_len}
use Rattle.name_table.specs.CodeBits.{bits_in}
use Rattle.mv_encoding.specs.Layouts.{levels_of}
use Rattle.net_problem.proofs.Kept.{take_found}
use Rattle.net_frame.proofs.codes.push_levels.Goals as goal

pub loop-k-preserved : goal.loop-k-preserved
loop-k-preserved c =
    let at : slice_get (levels_of c.args.code.now) c.loop-k.k ≡ Some c.unwrap.result =
    ap (λ levels. slice_get levels c.loop-k.k) (sym c.levels-all.ensures) ∙ (sym c.at.ensures ∙ c.unwrap.ensures) in
    c.in_ok-push.ensures.items
    ∙ ap (λ levels. levels ++ c.unwrap.result ∷ []) c.loop-k.invariant
    ∙ append_assoc c.args.levels.now.items (take c.loop-k.k (levels_of c.args.code.now)) (c.unwrap.result ∷ [])
    ∙ ap (λ levels. c.args.levels.now.items ++ levels) (sym (take_found (levels_of c.args.code.now) c.loop-k.k c.unwrap.result at))

pub returns-clause-levels : goal.returns-clause-levels
returns-clause-levels c =
    let all = take_all c.loop-k.k (levels_of c.args.code.now) (let size = ap length c.levels-all.ensures in omega (arith, size, c.len-k-end.ensures.len, c.loop-k-test.false)) in
    c.loop-k.invariant ∙ ap (λ levels. c.args.levels.now.items ++ levels) all

pub returns-clause-few : goal.returns-clause-few
returns-clause-few c =
    let size = ap length c.levels-all.ensures ∙ length-range_with_len c.args.code.now.first (bits_in c.args.code.now.scope) in
    let end = c.loop-k.auto.k-end in
    let taken = length-take-le c.loop-k.k (levels_of c.args.code.now) (let whole = ap length c.levels-all.ensures in omega (arith, end, whole, c.len-k-end.ensures.len)) in
    let both = ap length c.loop-k.invariant ∙ length-append c.args.levels.now.items (take c.loop-k.k (levels_of c.args.code.now)) in
    omega (arith, both, taken, size, end, c.len-k-end.ensures.len, c.bits.ensures.few, c.bits.ensures.bits)
