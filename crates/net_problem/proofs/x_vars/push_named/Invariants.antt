use Rattle.std.proofs.Common.{◌≡◌, ◌++◌, true, map, take, drop}
use Rattle.std.specs.List.{list_all}
use Rattle.name_table.specs.ScopeVars.{variables_of}
use Rattle.net_model.specs.Topologies.{is_named, variable_named}
use Rattle.net_problem.proofs.x_vars.push_named.Given as goal

abbrev pub invariant-loop-name : goal.invariant-loop-name
invariant-loop-name l = record {
  added : variables_of l.vars.items
      ≡ variables_of l.fn.vars.items ++ map (variable_named (variables_of l.joint)) (map (λ n. n.items) (take l.name-index l.list));
  known : list_all (is_named (variables_of l.joint)) (map (λ n. n.items) (drop l.name-index l.list)) ≡ true;
}
