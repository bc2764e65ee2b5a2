use Rattle.std.proofs.Common.{◌≡◌, length, map, take, sym, ◌∙◌, ap, subst, arith}
use Rattle.std.proofs.lemmas.List.{length-map, take_all}
use Rattle.name_table.specs.ScopeVars.{variables_of, variable_at, chosen_of}
use Rattle.name_table.specs.Variables.{IsTable, are_different, names_of}
use Rattle.name_table.proofs.Chosen.{chosen_differ, length_chosen}
use Rattle.name_table.proofs.names.Names.chosen.Goals as goal

pub returns-clause-few : goal.returns-clause-few
returns-clause-few c =
    let table : IsTable c.args.self.now = subst IsTable c.self.view_is c.self.invariant in
    let all : take c.loop-var.var-index c.args.vars.now ≡ c.args.vars.now = take_all _ _ c.loop-var-test.false in
    let size : length (variables_of c.loop-var.chosen.items) ≡ length c.args.vars.now =
    ap length c.loop-var.invariant
    ∙ (length-map (map (λ var. var.0) (take c.loop-var.var-index c.args.vars.now)) (variable_at c.args.self.now)
    ∙ (length-map (take c.loop-var.var-index c.args.vars.now) (λ var. var.0) ∙ ap length all)) in
    let listed : length c.loop-var.chosen.items ≡ length c.args.vars.now = sym (length-map c.loop-var.chosen.items _) ∙ size in
    omega (
      arith,
      listed,
      table.few,
      c.loop-var.chosen.ok,
      length_chosen c.args.self.now c.args.vars.now (λ var. var.0) c.requires.known c.requires.different,
    )

pub returns-clause-different : goal.returns-clause-different
returns-clause-different c =
    let table : IsTable c.args.self.now = subst IsTable c.self.view_is c.self.invariant in
    let all : take c.loop-var.var-index c.args.vars.now ≡ c.args.vars.now = take_all _ _ c.loop-var-test.false in
    ap (λ vars. are_different (names_of vars)) c.loop-var.invariant
    ∙ (ap (λ vs. are_different (names_of (chosen_of c.args.self.now (map (λ var. var.0) vs)))) all
    ∙ chosen_differ c.args.self.now c.args.vars.now (λ var. var.0) c.requires.known c.requires.different table.different)
