use Rattle.std.proofs.Common.{◌≡◌, ◌-◌, ◌++◌, ◌∷◌, [], ◌∙◌, length, sym, ap, arith}
use Rattle.std.specs.List.{range_with_len}
use Rattle.std.proofs.lemmas.List.FromFn.{length-range_with_len}
use Rattle.std.proofs.lemmas.Result.{IfOk-weaker}
use Rattle.bdd_ops.specs.Levels.{IsSetOf}
use Rattle.mv_encoding.proofs.Ranges.{range-next, set-of-range}
use Rattle.automata_tests.proofs.drawing.levels_from.Goals as goal

pub loop-level-preserved : goal.loop-level-preserved
loop-level-preserved c =
    c.in_ok-push.ensures.items
    ∙ ap (λ levels. levels ++ c.loop-level.level ∷ []) c.loop-level.invariant
    ∙ sym (range-next c.args.first c.loop-level.level c.loop-level.auto.level)

pub of-requires : goal.of-requires
of-requires c =
    let end : c.loop-level.level - c.args.first ≡ c.args.count = omega (arith, c.loop-level-test.false, c.loop-level.auto.level-end) in
    let size = ap length c.deref.ensures.value ∙ ap length c.loop-level.invariant ∙ length-range_with_len c.args.first (c.loop-level.level - c.args.first) in
    omega (arith, size, end, c.requires.few)

pub returns : goal.returns
returns c =
    let end : c.loop-level.level - c.args.first ≡ c.args.count = omega (arith, c.loop-level-test.false, c.loop-level.auto.level-end) in
    let is = c.deref.ensures.value ∙ c.loop-level.invariant ∙ ap (range_with_len c.args.first) end in
    IfOk-weaker c.of.result (IsSetOf c.deref.result.now) (λ levels. levels ≡ range_with_len c.args.first c.args.count)
    (λ levels set. set-of-range c.args.count c.args.first is set)
    c.of.ensures
