use Rattle.std.proofs.Common.{◌≡◌, ◌+◌, ◌++◌, ℕ, List, [], ◌∷◌, map, sym, ap, ◌∙◌, add-one, zero-add}
use Rattle.std.specs.List.{range_with_len}
use Rattle.std.proofs.lemmas.List.{map-append}
use Rattle.name_table.specs.declared.names.VarId.{VarId}
use Rattle.net_model.proofs.Counting.{range-suc}
use Rattle.net_model.proofs.outline.numbers_below.Goals as goal

pub loop-k-preserved : goal.loop-k-preserved
loop-k-preserved c =
    let number = λ (v : VarId). v.0 in
    rw add-one (ap (map number) c.in_ok-push.ensures.items
    ∙ map-append number c.loop-k.vars.items (record { 0 = c.loop-k.k } ∷ [])
    ∙ ap (λ numbers. numbers ++ c.loop-k.k ∷ []) c.loop-k.invariant
    ∙ ap (λ k. range_with_len 0 c.loop-k.k ++ k ∷ []) (sym (zero-add c.loop-k.k))
    ∙ sym (range-suc c.loop-k.k 0))
