use Rattle.std.proofs.Common.{◌≡◌, ◌≤◌, ◌++◌, ◌∷◌, [], length, map, not, sym, ◌∙◌, ap, subst, arith}
use Rattle.std.proofs.lemmas.List.{map-append, length-map}
use Rattle.std.proofs.lemmas.Grind.{common_steps}
use Rattle.name_table.specs.Variables.{is_in, are_different}
use Rattle.net_model.specs.Topologies.{joint_actions}
use Rattle.net_problem.proofs.Few.{joint_actions_few}
use Rattle.net_problem.proofs.Joined.{joint_different}
use Rattle.net_problem.proofs.Kept.{take_found, keep_found}
use Rattle.net_problem.proofs.joint.joint_actions.Goals as goal

pub of_f-preserved : goal.of_f-preserved
of_f-preserved c =
    ap (map (λ n. n.items)) c.in_ok-push.ensures.items
    ∙ (map-append (λ n. n.items) c.of_f.actions.items (c.in_ok-action_at.field-0 ∷ [])
    ∙ (ap (λ names. names ++ c.in_ok-action_at.field-0.items ∷ []) c.of_f.invariant
    ∙ sym (take_found c.args.f.now c.of_f.k c.in_ok-action_at.field-0.items c.in_ok-action_at.ensures)))

pub of_s-preserved : goal.of_s-preserved
of_s-preserved c =
    keep_found (λ action. not (is_in c.args.f.now action)) c.args.f.now (map (λ n. n.items) c.of_s.actions.items) (map (λ n. n.items) c.push_new.new.actions.items)
    c.args.s.now c.of_s.k c.in_ok-action_at-2.field-0.items c.in_ok-action_at-2.ensures c.of_s.invariant c.in_ok-push_new.ensures

pub returns-clause-different : goal.returns-clause-different
returns-clause-different c =
    let joint : map (λ n. n.items) c.of_s.actions.items ≡ joint_actions c.args.f.now c.args.s.now = grind (arith, common_steps) in
    ap are_different joint ∙ joint_different c.args.f.now c.args.s.now c.len-k-end.ensures.good.different c.len-k-end-2.ensures.good.different

pub returns-clause-few : goal.returns-clause-few
returns-clause-few c =
    let joint : map (λ n. n.items) c.of_s.actions.items ≡ joint_actions c.args.f.now c.args.s.now = grind (arith, common_steps) in
    subst (λ n. n ≤ 131072) (sym (ap length joint) ∙ length-map c.of_s.actions.items (λ n. n.items))
    (joint_actions_few c.args.f.now c.args.s.now c.requires.few_of_f c.requires.few_of_s)
