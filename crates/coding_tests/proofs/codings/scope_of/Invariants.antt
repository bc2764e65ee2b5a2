use Rattle.std.proofs.Common.{◌≡◌}
use Rattle.name_table.specs.ScopeVars.{variables_of}
use Rattle.name_table.specs.Variables.{names_of, numbers}
use Rattle.coding_tests.proofs.codings.scope_of.Given as goal

abbrev pub invariant-loop-number : goal.invariant-loop-number
invariant-loop-number l = names_of (variables_of l.vars.items) ≡ numbers l.number
