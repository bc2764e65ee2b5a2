use Rattle.std.proofs.Common.{ap, ◌∙◌}
use Rattle.std.specs.List.{list_all}
use Rattle.net_conditions.specs.Marks.{is_marked}
use Rattle.net_conditions.proofs.Tabled.{acceptance_by}
use Rattle.net_conditions.proofs.acceptance.is_acceptance.Goals as goal

pub returns-then-is_only_output : goal.returns-then-is_only_output
returns-then-is_only_output c =
    acceptance_by c.args.states.now c.args.signal.0 c.args.table.now c.is_only_output.result c.has_all.result c.is_only_output.ensures
    (c.has_all.ensures ∙ ap (list_all (λ v. is_marked c.args.states.now v.0)) c.deref.ensures.value) c.if-is_only_output.true
