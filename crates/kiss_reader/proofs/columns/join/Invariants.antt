use Rattle.std.proofs.Common.{◌≡◌, ◌++◌, true, length}
use Rattle.name_table.specs.ScopeVars.{variables_of}
use Rattle.name_table.specs.Variables.{names_of, are_different}
use Rattle.kiss_reader.proofs.columns.join.Given as goal

abbrev pub invariant-loop-left : goal.invariant-loop-left
invariant-loop-left l = record {
  whole : l.names ++ names_of (variables_of l.left) ≡ l.fn.names ++ names_of (variables_of l.columns);
  different : are_different l.names ≡ true;
}

abbrev pub decreases-loop-left : goal.decreases-loop-left
decreases-loop-left l = length l.left
