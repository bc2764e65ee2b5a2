use Rattle.std.proofs.Common.{◌≡◌, drop}
use Rattle.name_table.specs.ScopeVars.{variables_of}
use Rattle.net_model.specs.Topologies.{is_named}
use Rattle.net_problem.proofs.joint.is_named.Given as goal

abbrev pub invariant-loop-var : goal.invariant-loop-var
invariant-loop-var l = is_named (variables_of (drop l.var-index l.vars)) l.name ≡ is_named (variables_of l.vars) l.name
