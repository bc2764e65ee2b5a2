use Rattle.std.proofs.Common.{length, get_or, map, All, refl, subst, ap, ◌∙◌, arith}
use Rattle.std.proofs.lemmas.List.{take_all}
use Rattle.net_model.specs.Conditions.{IsReset}
use Rattle.net_model.specs.Nets.{table_of, net_of}
use Rattle.net_conditions.proofs.Listed.{All-images_more, not_all_images}
use Rattle.net_conditions.proofs.resets.are_resets.Goals as goal

pub returns-then-not-is_reset : goal.returns-then-not-is_reset
returns-then-not-is_reset c =
    not_all_images table_of (IsReset (net_of c.args.net.now)) c.args.net.now.resets.items c.loop-table.table-index c.table-item.result c.is_reset.result
    (omega (arith, ap length c.deref-table-items.ensures.value))
    (c.table-item.is ∙ ap (λ tables. get_or tables c.loop-table.table-index c.table-item.result) c.deref-table-items.ensures.value)
    (c.is_reset.ensures.reset (net_of c.args.net.now) c.in_ok-varying.ensures c.in_ok-states.ensures) c.if-not-is_reset.true

pub loop-table-preserved : goal.loop-table-preserved
loop-table-preserved c =
    All-images_more table_of (IsReset (net_of c.args.net.now)) c.args.net.now.resets.items c.loop-table.table-index c.table-item.result c.is_reset.result
    (omega (arith, ap length c.deref-table-items.ensures.value))
    (c.table-item.is ∙ ap (λ tables. get_or tables c.loop-table.table-index c.table-item.result) c.deref-table-items.ensures.value)
    (c.is_reset.ensures.reset (net_of c.args.net.now) c.in_ok-varying.ensures c.in_ok-states.ensures) c.if-not-is_reset.false c.loop-table.invariant

pub returns : goal.returns
returns c =
    let all = take_all c.loop-table.table-index c.args.net.now.resets.items (omega (arith, ap length c.deref-table-items.ensures.value)) in
    (λ _. subst (λ tables. All (IsReset (net_of c.args.net.now)) (map table_of tables)) all c.loop-table.invariant, λ _. refl)
