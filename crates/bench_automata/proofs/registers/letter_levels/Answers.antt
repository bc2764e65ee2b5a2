use Rattle.std.proofs.Common.{◌≡◌, ◌∙◌, ◌++◌, ◌∷◌, [], length, sym, ap, arith}
use Rattle.std.specs.List.{range_with_len}
use Rattle.std.proofs.lemmas.List.FromFn.{length-range_with_len}
use Rattle.std.proofs.lemmas.Result.{IfOk-weaker}
use Rattle.bdd_ops.specs.Levels.{IsSetOf}
use Rattle.mv_encoding.proofs.Ranges.{set-of-range}
use Rattle.bench_automata.proofs.Latches.{letters-more}
use Rattle.bench_automata.proofs.registers.letter_levels.Goals as goal

pub loop-level-preserved : goal.loop-level-preserved
loop-level-preserved c =
    c.in_ok-push.ensures.items ∙ ap (λ levels. levels ++ c.loop-level.level ∷ []) c.loop-level.invariant ∙ sym (letters-more c.loop-level.level)

pub of-requires : goal.of-requires
of-requires c =
    let end : c.loop-level.level ≡ c.args.letters = omega (arith, c.loop-level-test.false, c.loop-level.auto.level-end) in
    let size = ap length c.deref.ensures.value ∙ ap length c.loop-level.invariant ∙ length-range_with_len 0 c.loop-level.level in
    omega (arith, size, end, c.requires)

pub returns : goal.returns
returns c =
    let end : c.loop-level.level ≡ c.args.letters = omega (arith, c.loop-level-test.false, c.loop-level.auto.level-end) in
    let is = c.deref.ensures.value ∙ c.loop-level.invariant ∙ ap (range_with_len 0) end in
    IfOk-weaker c.of.result (IsSetOf c.deref.result.now) (λ levels. levels ≡ range_with_len 0 c.args.letters)
    (λ levels set. set-of-range c.args.letters 0 is set)
    c.of.ensures
