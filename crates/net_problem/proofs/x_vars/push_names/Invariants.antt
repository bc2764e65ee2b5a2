use Rattle.std.proofs.Common.{◌≡◌, ◌++◌, map, take}
use Rattle.net_problem.proofs.x_vars.push_names.Given as goal

abbrev pub invariant-loop-name : goal.invariant-loop-name
invariant-loop-name l = map (λ n. n.items) l.all.items ≡ map (λ n. n.items) l.fn.all.items ++ map (λ n. n.items) (take l.name-index l.list)
