use Rattle.std.proofs.Common.{◌<◌, ◌≤◌, length, map, All, sym, ◌∙◌, ap, subst, arith}
use Rattle.std.proofs.lemmas.List.{length-map}
use Rattle.name_table.specs.ScopeVars.{variable_at, chosen_of}
use Rattle.name_table.specs.Variables.{names_of, are_different}
use Rattle.net_model.specs.Nets.{net_of}
use Rattle.net_model.specs.Parts.{actions_of}
use Rattle.net_problem.proofs.Few.{chosen_few}
use Rattle.net_model.proofs.Letters.{listed_known, listed_differ, listed_few}
use Rattle.net_problem.proofs.letter_vars.letter_vars.Goals as goal

pub chosen_vars-requires : goal.chosen_vars-requires
chosen_vars-requires c =
    subst (λ signals. All (λ signal. signal.0 < length c.args.net.now.names) signals) (sym c.deref.ensures.value)
    (listed_known (net_of c.args.net.now) c.in_ok-signals.signals.items (λ v. v.0) c.in_ok-signals.ensures c.requires)

pub returns-clause-few : goal.returns-clause-few
returns-clause-few c =
    let few = listed_few (net_of c.args.net.now) c.in_ok-signals.signals.items (λ v. v.0) c.in_ok-signals.ensures c.requires in
    let size =
    sym (length-map c.in_ok-vars.vars.items _)
    ∙ (ap length c.in_ok-vars.ensures
    ∙ (length-map (map (λ v. v.0) c.deref.result.now) (variable_at c.args.net.now.names)
    ∙ (length-map c.deref.result.now (λ v. v.0) ∙ ap length c.deref.ensures.value))) in
    omega (arith, few, size, c.in_ok-vars.vars.ok)

pub returns-clause-different : goal.returns-clause-different
returns-clause-different c =
    ap (λ vars. are_different (names_of vars)) c.in_ok-vars.ensures
    ∙ (ap (λ signals. are_different (names_of (chosen_of c.args.net.now.names (map (λ v. v.0) signals)))) c.deref.ensures.value
    ∙ listed_differ (net_of c.args.net.now) c.in_ok-signals.signals.items (λ v. v.0) c.in_ok-signals.ensures c.requires)

pub returns-clause-few_actions : goal.returns-clause-few_actions
returns-clause-few_actions c =
    subst (λ vars. length (actions_of vars) ≤ 65536) (sym c.in_ok-vars.ensures)
    (chosen_few c.args.net.now.names (map (λ v. v.0) c.deref.result.now) c.requires.known.names.small)
