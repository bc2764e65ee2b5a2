use Rattle.std.proofs.Common.{◌≡◌, true, drop}
use Rattle.name_table.specs.ScopeVars.{variables_of}
use Rattle.net_model.specs.Topologies.{is_named, variable_named}
use Rattle.net_problem.proofs.x_vars.var_named.Given as goal

abbrev pub invariant-loop-var : goal.invariant-loop-var
invariant-loop-var l = record {
  there : is_named (variables_of (drop l.var-index l.joint)) l.name ≡ true;
  left : variable_named (variables_of (drop l.var-index l.joint)) l.name ≡ variable_named (variables_of l.joint) l.name;
}
