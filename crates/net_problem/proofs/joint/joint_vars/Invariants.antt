use Rattle.std.proofs.Common.{◌≡◌, ◌++◌, take, not}
use Rattle.std.specs.Prelude.{filter}
use Rattle.name_table.specs.ScopeVars.{variables_of}
use Rattle.net_model.specs.Topologies.{is_named}
use Rattle.net_problem.proofs.joint.joint_vars.Given as goal

abbrev pub invariant-of_f : goal.invariant-of_f
invariant-of_f l = variables_of l.joint.items ≡ variables_of (take l.var-index l.f)

abbrev pub invariant-of_s : goal.invariant-of_s
invariant-of_s l =
    variables_of l.joint.items
    ≡ variables_of l.f ++ filter (λ v. not (is_named (variables_of l.f) v.name)) (variables_of (take l.other-index l.s))
