use Rattle.name_table.specs.ScopeVars.{variables_of}
use Rattle.name_table.specs.Variables.{names_of}
use Rattle.kiss_reader.proofs.Columned.{front_twice}
use Rattle.kiss_reader.proofs.columns.are_different.Goals as goal

pub returns-then-not-branch : goal.returns-then-not-branch
returns-then-not-branch c =
    front_twice _ (names_of (variables_of c.args.inputs.now)) (names_of (variables_of c.args.outputs.now)) _ c.in_ok-join.field-0
    c.if-not-branch.true c.new-names.ensures c.in_ok-join.ensures
