use Rattle.std.proofs.Common.{sym, ◌∙◌, ap}
use Rattle.name_table.specs.ScopeVars.{variables_of}
use Rattle.name_table.specs.Variables.{is_in}
use Rattle.net_problem.specs.Building.{known_in}
use Rattle.net_problem.proofs.NamesKnown.{named_in}
use Rattle.net_problem.proofs.name_faults.is_known.Goals as goal

pub returns-in-Sync : goal.returns-in-Sync
returns-in-Sync c =
    c.is_named.ensures
    ∙ (named_in (variables_of c.args.joint.now) c.args.name.now
    ∙ ap (λ mode. is_in (known_in mode (variables_of c.args.joint.now)) c.args.name.now) (sym c.in-Sync.is))
