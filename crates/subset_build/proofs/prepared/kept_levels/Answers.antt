use Rattle.std.proofs.Common.{◌≡◌, ◌++◌, ◌∙◌, ◌||◌, [], ◌∷◌, ℕ, get_or, sym, ap, arith}
use Rattle.std.proofs.lemmas.Result.{IfOk-weaker}
use Rattle.std.proofs.lemmas.List.{take_all}
use Rattle.bdd_ops.specs.Levels.{is_in, sources, IsSetOf}
use Rattle.subset_build.proofs.Lists.{take-next, sources-next, found-at, is_in-append}
use Rattle.subset_build.proofs.prepared.kept_levels.Goals as goal

pub loop-k-preserved : goal.loop-k-preserved
loop-k-preserved c =
    c.in_ok-push.ensures.items
    ∙ ap (λ l. l ++ c.in-Some.level ∷ []) c.loop-k.invariant
    ∙ sym (take-next c.args.keep.now c.loop-k.k c.in-Some.level (sym c.at.ensures ∙ c.in-Some.is))

pub unreachable-requires-in_default-at : goal.unreachable-requires-in_default-at
unreachable-requires-in_default-at c =
    c.in_default-at.not-Some (get_or c.args.state.now c.loop-k-2.k (0, 0))
    (c.at-in-loop-k-2.ensures ∙ found-at c.args.state.now c.loop-k-2.k (0, 0) (omega (arith, c.loop-k-2-test.true, c.len-k-end-2.ensures)))

pub loop-k-2-preserved : goal.loop-k-2-preserved
loop-k-2-preserved c =
    c.in_ok-push-2.ensures.items
    ∙ ap (λ l. l ++ c.in-Some-at.pair.0 ∷ []) c.loop-k-2.invariant
    ∙ sources-next c.args.keep.now c.args.state.now c.loop-k-2.k c.in-Some-at.pair (sym c.at-in-loop-k-2.ensures ∙ c.in-Some-at.is)

pub returns : goal.returns
returns c =
    let all : c.loop-k-2.levels.items ≡ c.args.keep.now ++ sources c.args.state.now = c.loop-k-2.invariant ∙ ap (λ l. c.args.keep.now ++ sources l) (take_all c.loop-k-2.k c.args.state.now (omega (arith, c.loop-k-2-test.false, c.len-k-end-2.ensures))) in
    IfOk-weaker c.of.result (IsSetOf c.deref.result.now) (λ kept. (k : ℕ) → is_in kept k ≡ (is_in c.args.keep.now k || is_in (sources c.args.state.now) k))
    (λ kept is k. is.same k ∙ ap (λ l. is_in l k) (c.deref.ensures.value ∙ all) ∙ is_in-append c.args.keep.now (sources c.args.state.now) k)
    c.of.ensures
