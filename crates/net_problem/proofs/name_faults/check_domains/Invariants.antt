use Rattle.std.proofs.Common.{◌≡◌, drop}
use Rattle.name_table.specs.ScopeVars.{variables_of}
use Rattle.net_model.specs.Problems.{domain_refusal}
use Rattle.net_problem.proofs.name_faults.check_domains.Given as goal

abbrev pub invariant-loop-var : goal.invariant-loop-var
invariant-loop-var l = domain_refusal (variables_of (drop l.var-index l.f)) (variables_of l.s) ≡ domain_refusal (variables_of l.f) (variables_of l.s)
