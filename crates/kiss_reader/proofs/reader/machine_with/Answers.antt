use Rattle.name_table.specs.ScopeVars.{variables_of}
use Rattle.name_table.specs.Variables.{names_of}
use Rattle.kiss_reader.proofs.Columned.{different_front, different_back}
use Rattle.kiss_reader.proofs.reader.machine_with.Goals as goal

pub of_vars-requires-clause-different : goal.of_vars-requires-clause-different
of_vars-requires-clause-different c =
    different_front (names_of (variables_of c.args.inputs.items)) (names_of (variables_of c.args.outputs.items)) c.requires.different

pub of_vars-requires-2-clause-different : goal.of_vars-requires-2-clause-different
of_vars-requires-2-clause-different c =
    different_back (names_of (variables_of c.args.inputs.items)) (names_of (variables_of c.args.outputs.items)) c.requires.different
