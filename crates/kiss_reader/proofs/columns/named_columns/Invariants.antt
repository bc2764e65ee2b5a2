use Rattle.std.proofs.Common.{◌≡◌, ◌++◌, length}
use Rattle.name_table.specs.ScopeVars.{variables_of}
use Rattle.net_model.specs.KissTexts.{columns_named}
use Rattle.blifmv_lines.specs.Said.{texts}
use Rattle.kiss_reader.proofs.columns.named_columns.Given as goal

abbrev pub invariant-loop-left : goal.invariant-loop-left
invariant-loop-left l = variables_of l.columns.items ++ columns_named (texts l.left) ≡ columns_named (texts l.names)

abbrev pub decreases-loop-left : goal.decreases-loop-left
decreases-loop-left l = length l.left
