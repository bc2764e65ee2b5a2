use Rattle.std.proofs.Common.{◌++◌, ◌∙◌, [], ◌∷◌, get_or, sym, ap, arith}
use Rattle.subset_build.proofs.Lists.{itself-next, pairs-next, found-at}
use Rattle.subset_build.proofs.prepared.whole_map.Goals as goal

pub loop-k-preserved : goal.loop-k-preserved
loop-k-preserved c =
    c.in_ok-push.ensures.items
    ∙ ap (λ l. l ++ (c.in-Some.level, c.in-Some.level) ∷ []) c.loop-k.invariant
    ∙ itself-next c.args.keep.now c.loop-k.k c.in-Some.level (sym c.at.ensures ∙ c.in-Some.is)

pub unreachable-requires-in_default-at : goal.unreachable-requires-in_default-at
unreachable-requires-in_default-at c =
    c.in_default-at.not-Some (get_or c.args.state.now c.loop-k-2.k (0, 0))
    (c.at-in-loop-k-2.ensures ∙ found-at c.args.state.now c.loop-k-2.k (0, 0) (omega (arith, c.loop-k-2-test.true, c.len-k-end-2.ensures)))

pub loop-k-2-preserved : goal.loop-k-2-preserved
loop-k-2-preserved c =
    c.in_ok-push-2.ensures.items
    ∙ ap (λ l. l ++ c.in-Some-at.pair ∷ []) c.loop-k-2.invariant
    ∙ pairs-next c.args.keep.now c.args.state.now c.loop-k-2.k c.in-Some-at.pair (sym c.at-in-loop-k-2.ensures ∙ c.in-Some-at.is)
