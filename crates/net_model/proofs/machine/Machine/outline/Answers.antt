use Rattle.std.proofs.Common.{◌≡◌, ◌++◌, ℕ, List, [], ◌∷◌, sym, ap, ◌∙◌, subst}
use Rattle.name_table.specs.Variables.{Variable, IsTable}
use Rattle.net_model.specs.Machines.{machine_of, machine_letters}
use Rattle.net_model.proofs.Outlined.{machine-table, letters-table, inputs-table}
use Rattle.net_model.proofs.machine.Machine.outline.Goals as goal

pub add_columns-requires : goal.add_columns-requires
add_columns-requires c = subst (λ (names : List Variable). IsTable (names ++ c.args.self.now.inputs)) (sym c.new-names.ensures) (inputs-table (machine_of c.args.self.now) c.requires)

pub add_columns-requires-2 : goal.add_columns-requires-2
add_columns-requires-2 c =
    subst (λ (names : List Variable). IsTable (names ++ c.args.self.now.outputs))
    (sym (c.in_ok-add_columns.ensures ∙ ap (λ (names : List Variable). names ++ c.args.self.now.inputs) c.new-names.ensures))
    (letters-table (machine_of c.args.self.now) c.requires)

pub add_new-requires : goal.add_new-requires
add_new-requires c =
    subst (λ (names : List Variable). IsTable (names ++ record { name = []; values = c.in_ok-states.states } ∷ []))
    (sym (c.in_ok-add_columns-2.ensures ∙ ap (λ (names : List Variable). names ++ c.args.self.now.outputs) (c.in_ok-add_columns.ensures ∙ ap (λ (names : List Variable). names ++ c.args.self.now.inputs) c.new-names.ensures)))
    (subst (λ (values : List (List ℕ)). IsTable (machine_letters (machine_of c.args.self.now) ++ record { name = []; values = values } ∷ [])) (sym c.in_ok-states.ensures) (machine-table (machine_of c.args.self.now) c.requires))
