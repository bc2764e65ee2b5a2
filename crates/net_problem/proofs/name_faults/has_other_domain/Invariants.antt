use Rattle.std.proofs.Common.{◌≡◌, drop}
use Rattle.name_table.specs.ScopeVars.{variables_of}
use Rattle.net_model.specs.Problems.{has_other_domain}
use Rattle.net_problem.proofs.name_faults.has_other_domain.Given as goal

abbrev pub invariant-loop-other : goal.invariant-loop-other
invariant-loop-other l =
    has_other_domain (variables_of (drop l.other-index l.s)) l.var.name.items l.var.domain ≡ has_other_domain (variables_of l.s) l.var.name.items l.var.domain
