use Rattle.std.proofs.Common.{◌≡◌, ◌++◌, [], map, drop}
use Rattle.name_table.specs.ScopeVars.{variables_of}
use Rattle.net_problem.specs.Building.{known_in}
use Rattle.net_model.specs.Problems.{list_refusal}
use Rattle.net_problem.proofs.name_faults.check_list.Given as goal

abbrev pub invariant-loop-name : goal.invariant-loop-name
invariant-loop-name l = record {
  added : l.before ++ map (λ n. n.items) (drop l.name-index l.list) ≡ map (λ n. n.items) l.list;
  left : list_refusal l.mode (known_in l.mode (variables_of l.joint)) l.before l.others (map (λ n. n.items) (drop l.name-index l.list))
      ≡ list_refusal l.mode (known_in l.mode (variables_of l.joint)) [] l.others (map (λ n. n.items) l.list);
}
