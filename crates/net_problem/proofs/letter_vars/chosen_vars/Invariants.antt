use Rattle.std.proofs.Common.{◌≡◌, take, map}
use Rattle.name_table.specs.ScopeVars.{variables_of, chosen_of}
use Rattle.net_problem.proofs.letter_vars.chosen_vars.Given as goal

abbrev pub invariant-loop-signal : goal.invariant-loop-signal
invariant-loop-signal l = variables_of l.vars.items ≡ chosen_of l.names (map (λ var. var.0) (take l.signal-index l.signals))
