use Rattle.std.proofs.Common.{refl, ap, ◌∙◌}
use Rattle.std.specs.List.{list_any}
use Rattle.net_model.specs.Nets.{table_of}
use Rattle.net_conditions.specs.Marks.{is_marked}
use Rattle.net_conditions.proofs.Closure.{adds_outputs, adds_no_outputs}
use Rattle.net_conditions.proofs.varying.add_outputs_of.Goals as goal

pub returns-then-has_any-clause-added : goal.returns-then-has_any-clause-added
returns-then-has_any-clause-added c =
    let answer = c.has_any.ensures ∙ ap (list_any (λ v. is_marked c.args.varying.now v.0)) c.deref.ensures.value in
    adds_outputs (λ v. v.0) c.args.varying.now c.insert_all.new.self c.args.table.now.ins.items c.deref-then-has_any.result.now c.args.table.now.outs.items
    (table_of c.args.table.now) c.has_any.result refl refl answer c.if-has_any.true c.deref-then-has_any.ensures.value c.insert_all.ensures.added

pub returns-else-has_any-clause-added : goal.returns-else-has_any-clause-added
returns-else-has_any-clause-added c =
    let answer = c.has_any.ensures ∙ ap (list_any (λ v. is_marked c.args.varying.now v.0)) c.deref.ensures.value in
    adds_no_outputs (λ v. v.0) c.args.varying.now c.args.table.now.ins.items (table_of c.args.table.now) c.has_any.result refl answer c.if-has_any.false
