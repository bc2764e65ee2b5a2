use Rattle.std.proofs.Common.{◌≡◌, ◌++◌, true, map, sym, ◌∙◌, ap}
use Rattle.std.specs.Vec.Iter.{into_iter_items}
use Rattle.name_table.specs.Variables.{are_different, is_in}
use Rattle.name_table.proofs.Apart.{not_different, not_false}
use Rattle.name_table.proofs.domain.set_of.Goals as goal

-- the name stands in the set, and so once more in the list
pub returns-then-not-is_new : goal.returns-then-not-is_new
returns-then-not-is_new c =
    let there : is_in c.loop-name.set c.in-Some.name.items ≡ true =
    not_false _ (sym c.in_ok-is_new.ensures.is_new ∙ c.if-not-is_new.true) in
    ap are_different
    (sym c.loop-name.invariant.added ∙ ap (λ it. c.loop-name.set ++ map (λ n. n.items) it) c.in-Some.ensures.steps.0)
    ∙ not_different c.loop-name.set c.in-Some.name.items (map (λ n. n.items) (into_iter_items c.next.new.self)) there
