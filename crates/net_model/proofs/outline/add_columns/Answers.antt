use Rattle.std.proofs.Common.{◌≡◌, ◌++◌, ℕ, List, [], ◌∷◌, take, sym, ap, ◌∙◌, subst, arith}
use Rattle.std.proofs.lemmas.List.{append_assoc}
use Rattle.name_table.specs.Variables.{Variable, IsTable}
use Rattle.name_table.specs.ScopeVars.{variable_at}
use Rattle.net_model.proofs.Taken.{one-more, next-table}
use Rattle.net_model.proofs.outline.add_columns.Goals as goal

pub add_column-requires-clause-table : goal.add_column-requires-clause-table
add_column-requires-clause-table c =
    let within = c.loop-column-test.true in
    let size = c.len-column-end.ensures.len in
    subst (λ (names : List Variable). IsTable (names ++ variable_at c.args.columns.now c.loop-column.column ∷ [])) (sym c.loop-column.invariant)
    (next-table c.args.names.now c.args.columns.now c.loop-column.column (omega (arith, within, size)) c.requires)

pub loop-column-preserved : goal.loop-column-preserved
loop-column-preserved c =
    let within = c.loop-column-test.true in
    let size = c.len-column-end.ensures.len in
    c.in_ok-add_column.ensures
    ∙ ap (λ (names : List Variable). names ++ variable_at c.args.columns.now c.loop-column.column ∷ []) c.loop-column.invariant
    ∙ (append_assoc c.args.names.now (take c.loop-column.column c.args.columns.now) (variable_at c.args.columns.now c.loop-column.column ∷ []))
    ∙ ap (λ (more : List Variable). c.args.names.now ++ more) (sym (one-more c.args.columns.now c.loop-column.column (omega (arith, within, size))))
