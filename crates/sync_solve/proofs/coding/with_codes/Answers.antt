use Rattle.std.proofs.Common.{◌+◌, ◌++◌, ◌∷◌, [], ◌∙◌, ℕ, map, sym, ap, arith}
use Rattle.std.specs.List.{range_with_len}
use Rattle.std.proofs.lemmas.List.FromFn.{map-range_with_len_more}
use Rattle.subset_build.proofs.Lists.{take-next, append-end}
use Rattle.sync_solve.proofs.coding.with_codes.Goals as goal

pub loop-k-preserved : goal.loop-k-preserved
loop-k-preserved c =
    c.in_ok-push.ensures.items
    ∙ ap (λ l. l ++ c.in-Some.pair ∷ []) c.loop-k.invariant
    ∙ sym (take-next c.args.back.now c.loop-k.k c.in-Some.pair (sym c.at.ensures ∙ c.in-Some.is))

pub loop-k-2-preserved : goal.loop-k-2-preserved
loop-k-2-preserved c =
    let pair : ℕ → ℕ × ℕ = λ k. (c.args.first + c.args.digits + k, c.args.first + k) in
    c.in_ok-push-2.ensures.items
    ∙ ap (λ l. l ++ pair c.loop-k-2.k ∷ []) c.loop-k-2.invariant
    ∙ append-end c.args.back.now (map pair (range_with_len 0 c.loop-k-2.k)) (pair c.loop-k-2.k)
    ∙ ap (λ l. c.args.back.now ++ l) (sym (map-range_with_len_more pair 0 c.loop-k-2.k c.loop-k-2.k (omega arith)))
