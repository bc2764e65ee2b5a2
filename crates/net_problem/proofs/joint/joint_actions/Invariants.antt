use Rattle.std.proofs.Common.{◌≡◌, ◌++◌, take, map, not}
use Rattle.std.specs.Prelude.{filter}
use Rattle.name_table.specs.Variables.{is_in}
use Rattle.net_problem.proofs.joint.joint_actions.Given as goal

abbrev pub invariant-of_f : goal.invariant-of_f
invariant-of_f l = map (λ n. n.items) l.actions.items ≡ take l.k l.f

abbrev pub invariant-of_s : goal.invariant-of_s
invariant-of_s l = map (λ n. n.items) l.actions.items ≡ l.f ++ filter (λ action. not (is_in l.f action)) (take l.k l.s)
