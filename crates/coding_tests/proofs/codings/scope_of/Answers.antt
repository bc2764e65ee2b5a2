use Rattle.std.proofs.Common.{◌∙◌, ◌++◌, ◌∷◌, [], length, sym, ap, arith}
use Rattle.std.specs.Prelude.{decimal}
use Rattle.std.proofs.lemmas.List.{length-map, map_push}
use Rattle.std.proofs.lemmas.List.FromFn.{length-map-range_with_len, map-range_with_len_more}
use Rattle.name_table.specs.ScopeVars.{variable_of, variables_of}
use Rattle.name_table.specs.Variables.{are_different, names_of}
use Rattle.name_table.proofs.Apart.{IsDomain-numbers}
use Rattle.coding_tests.proofs.codings.scope_of.Goals as goal

pub of_vars-requires-clause-few : goal.of_vars-requires-clause-few
of_vars-requires-clause-few c =
    let size =
    sym (length-map c.loop-number.vars.items variable_of)
    ∙ sym (length-map (variables_of c.loop-number.vars.items) (λ v. v.name))
    ∙ ap length c.loop-number.invariant
    ∙ length-map-range_with_len decimal 0 c.loop-number.number in
    omega (arith, size, c.loop-number.vars.ok, c.loop-number.auto.number-end, c.requires)

pub of_vars-requires-clause-different : goal.of_vars-requires-clause-different
of_vars-requires-clause-different c =
    let whole = IsDomain-numbers c.loop-number.number (omega (arith, c.loop-number-test.false)) (omega (arith, c.loop-number-test.false, c.loop-number.auto.number-end, c.requires)) in
    ap are_different c.loop-number.invariant ∙ whole.different

pub loop-number-preserved : goal.loop-number-preserved
loop-number-preserved c =
    ap (λ vars. names_of (variables_of vars)) c.in_ok-add.ensures
    ∙ ap names_of (map_push variable_of c.loop-number.vars.items c.in_ok-var.var)
    ∙ map_push (λ v. v.name) (variables_of c.loop-number.vars.items) (variable_of c.in_ok-var.var)
    ∙ (λ i. c.loop-number.invariant i ++ c.in_ok-var.ensures i ∷ [])
    ∙ sym (map-range_with_len_more decimal 0 c.loop-number.number c.loop-number.number (omega arith))
