use Rattle.std.proofs.Common.{◌≤◌, length, sym, ◌∙◌, subst}
use Rattle.name_table.specs.ScopeVars.{variables_of}
use Rattle.name_table.specs.Variables.{IsScope}
use Rattle.net_problem.specs.Building.{joint_in}
use Rattle.net_model.specs.Parts.{actions_of}
use Rattle.net_problem.proofs.Few.{joint_in_few}
use Rattle.net_problem.proofs.ScopesGood.{joint_good}
use Rattle.net_problem.proofs.scopes.joint_of_files.Goals as goal

pub returns-clause-good : goal.returns-clause-good
returns-clause-good c =
    let f = variables_of c.in_ok-f_vars.f_vars.items in
    let s = variables_of c.in_ok-s_vars.s_vars.items in
    let joint = c.in_ok-joint.ensures ∙ (λ i. joint_in c.args.mode (variables_of (c.deref-3.ensures.value i)) (variables_of (c.deref-4.ensures.value i))) in
    subst IsScope (sym joint)
    (joint_good c.args.mode f s c.in_ok-f_vars.ensures.different c.in_ok-s_vars.ensures.different c.in_ok-f_vars.ensures.few c.in_ok-s_vars.ensures.few)

pub returns-clause-few_actions : goal.returns-clause-few_actions
returns-clause-few_actions c =
    λ is.
    let f = variables_of c.in_ok-f_vars.f_vars.items in
    let s = variables_of c.in_ok-s_vars.s_vars.items in
    let joint = c.in_ok-joint.ensures ∙ (λ i. joint_in c.args.mode (variables_of (c.deref-3.ensures.value i)) (variables_of (c.deref-4.ensures.value i))) in
    subst (λ vars. length (actions_of vars) ≤ 131072) (sym joint)
    (joint_in_few c.args.mode f s is c.in_ok-f_vars.ensures.few_actions c.in_ok-s_vars.ensures.few_actions)
