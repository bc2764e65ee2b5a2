use Rattle.std.proofs.Common.{◌≡◌, List, sym, ap, ◌∙◌, subst}
use Rattle.std.specs.Prelude.{IfOk}
use Rattle.name_table.specs.ScopeVars.{variables_of}
use Rattle.net_model.specs.Words.{Scope}
use Rattle.net_model.specs.Machines.{machine_of}
use Rattle.net_model.specs.NetLanguages.{letters_of}
use Rattle.net_model.specs.Files.{MachineFile}
use Rattle.net_model.specs.Outlines.{IsWired}
use Rattle.net_model.proofs.Outlined.{outline-wired, outline-letters}
use Rattle.net_problem.proofs.scopes.column_vars.Goals as goal

pub letter_vars-requires : goal.letter_vars-requires
letter_vars-requires c = subst IsWired (sym c.in_ok-outline.ensures) (outline-wired (machine_of c.args.machine.now) c.requires)

pub returns-clause-vars : goal.returns-clause-vars
returns-clause-vars c =
    subst (λ (scope : Scope). IfOk c.letter_vars.result (λ vars. variables_of vars.items ≡ scope))
    (ap letters_of c.in_ok-outline.ensures ∙ outline-letters (MachineFile (machine_of c.args.machine.now)))
    c.letter_vars.ensures.vars
