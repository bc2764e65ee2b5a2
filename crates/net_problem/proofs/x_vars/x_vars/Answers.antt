use Rattle.std.proofs.Common.{◌≡◌, ◌≤◌, ◌++◌, true, length, Ok, Err, OnOk, sym, ◌∙◌, ap, arith}
use Rattle.std.specs.List.{list_all}
use Rattle.std.proofs.lemmas.List.{length-map}
use Rattle.name_table.specs.ScopeVars.{variables_of}
use Rattle.name_table.specs.Variables.{names_of, is_in}
use Rattle.net_problem.specs.Building.{known_in}
use Rattle.net_problem.proofs.NamesKnown.{all_front, all_rest, known_named}
use Rattle.net_problem.proofs.Few.{acting_few}
use Rattle.net_problem.proofs.Joined.{known_few}
use Rattle.net_problem.proofs.x_vars.x_vars.Goals as goal

pub named_vars-requires-clause-of_ins : goal.named_vars-requires-clause-of_ins
named_vars-requires-clause-of_ins c =
    let joint = variables_of c.args.joint.now in
    let known : list_all (is_in (names_of joint)) (c.args.ins.now ++ c.args.outs.now) ≡ true =
    ap (λ mode. list_all (is_in (known_in mode joint)) (c.args.ins.now ++ c.args.outs.now)) (sym c.in-Sync.is) ∙ c.requires.known in
    known_named joint c.args.ins.now (all_front (is_in (names_of joint)) c.args.ins.now c.args.outs.now known)

pub named_vars-requires-clause-of_outs : goal.named_vars-requires-clause-of_outs
named_vars-requires-clause-of_outs c =
    let joint = variables_of c.args.joint.now in
    let known : list_all (is_in (names_of joint)) (c.args.ins.now ++ c.args.outs.now) ≡ true =
    ap (λ mode. list_all (is_in (known_in mode joint)) (c.args.ins.now ++ c.args.outs.now)) (sym c.in-Sync.is) ∙ c.requires.known in
    known_named joint c.args.outs.now (all_rest (is_in (names_of joint)) c.args.ins.now c.args.outs.now known)

pub returns-in-Sync-clause-few : goal.returns-in-Sync-clause-few
returns-in-Sync-clause-few c =
    let joint = variables_of c.args.joint.now in
    let names = c.args.ins.now ++ c.args.outs.now in
    let known : list_all (is_in (names_of joint)) names ≡ true =
    ap (λ mode. list_all (is_in (known_in mode joint)) names) (sym c.in-Sync.is) ∙ c.requires.known in
    let fewer = known_few (names_of joint) names c.requires.different known in
    let size : length (names_of joint) ≡ length c.args.joint.now = length-map joint (λ v. v.name) ∙ length-map c.args.joint.now (λ v. record { name = v.name.items; values = v.domain }) in
    let few : length names ≤ 131072 = omega (arith, fewer, size, c.requires.few) in
    elim c.named_vars.result as (λ r. OnOk r (length names ≤ 131072)) [ Ok vars ↦ few | Err refusal ↦ tt ]

pub acting-requires-clause-few : goal.acting-requires-clause-few
acting-requires-clause-few c =
    let names = c.args.ins.now ++ c.args.outs.now in
    let few = acting_few c.args.mode (variables_of c.args.joint.now) names c.in-Parallel.is c.requires.known c.requires.different (c.requires.few_actions c.in-Parallel.is) in
    let size = sym (length-map c.in_ok-all_names-in-Parallel.field-0.items (λ n. n.items)) ∙ ap length c.in_ok-all_names-in-Parallel.ensures in
    omega (arith, few, size)

pub returns-in_ok-all_names-in-Parallel-clause-few : goal.returns-in_ok-all_names-in-Parallel-clause-few
returns-in_ok-all_names-in-Parallel-clause-few c =
    let names = c.args.ins.now ++ c.args.outs.now in
    let few = acting_few c.args.mode (variables_of c.args.joint.now) names c.in-Parallel.is c.requires.known c.requires.different (c.requires.few_actions c.in-Parallel.is) in
    elim c.acting.result as (λ r. OnOk r (length names ≤ 131072)) [ Ok vars ↦ few | Err refusal ↦ tt ]
