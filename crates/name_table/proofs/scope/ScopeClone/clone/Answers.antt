use Rattle.std.proofs.Common.{sym, subst, ◌∙◌}
use Rattle.name_table.specs.ScopeVars.{variable_of}
use Rattle.name_table.specs.Variables.{IsScope}
use Rattle.name_table.proofs.Copied.{copies_show}
use Rattle.name_table.proofs.scope.ScopeClone.clone.Goals as goal

pub invariant_of-result : goal.invariant_of-result
invariant_of-result c = subst IsScope (sym (copies_show variable_of c.self.inside.vars.items c.in_ok-vars.vars.items c.in_ok-vars.ensures.cases.0)) c.self.invariant

pub returns : goal.returns
returns c = record { cases = copies_show variable_of c.self.inside.vars.items c.in_ok-vars.vars.items c.in_ok-vars.ensures.cases.0 ∙ c.self.view_is }
