use Rattle.std.proofs.Common.{◌≡◌, map, take}
use Rattle.name_table.specs.ScopeVars.{variables_of, chosen_of}
use Rattle.name_table.proofs.names.Names.chosen.Given as goal

abbrev pub invariant-loop-var : goal.invariant-loop-var
invariant-loop-var l = variables_of l.chosen.items ≡ chosen_of l.self (map (λ var. var.0) (take l.var-index l.vars))
