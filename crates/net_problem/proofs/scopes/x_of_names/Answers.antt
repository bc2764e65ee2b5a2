use Rattle.std.proofs.Common.{◌++◌, sym, subst}
use Rattle.name_table.specs.ScopeVars.{variables_of}
use Rattle.name_table.specs.Variables.{IsScope}
use Rattle.net_problem.specs.Building.{known_in}
use Rattle.net_problem.proofs.ScopesGood.{names_good, x_good}
use Rattle.net_problem.proofs.scopes.x_of_names.Goals as goal

pub x_vars-requires-clause-known : goal.x_vars-requires-clause-known
x_vars-requires-clause-known c =
    (names_good c.args.mode (known_in c.args.mode (variables_of c.args.joint.now)) c.args.ins.now c.args.outs.now c.in_ok-check_names.ensures.none).0

pub x_vars-requires-clause-different : goal.x_vars-requires-clause-different
x_vars-requires-clause-different c =
    (names_good c.args.mode (known_in c.args.mode (variables_of c.args.joint.now)) c.args.ins.now c.args.outs.now c.in_ok-check_names.ensures.none).1

pub returns-clause-good : goal.returns-clause-good
returns-clause-good c =
    let good = names_good c.args.mode (known_in c.args.mode (variables_of c.args.joint.now)) c.args.ins.now c.args.outs.now c.in_ok-check_names.ensures.none in
    subst IsScope (sym c.in_ok-x.ensures.vars)
    (x_good c.args.mode (variables_of c.args.joint.now) (c.args.ins.now ++ c.args.outs.now) c.requires.joint good.0 good.1)
