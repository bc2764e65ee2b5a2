use Rattle.std.proofs.Common.{◌≡◌, ◌∷◌, []}
use Rattle.name_table.specs.ScopeVars.{variables_of}
use Rattle.net_model.specs.KissTexts.{columns_named, numbered_names}
use Rattle.kiss_reader.proofs.columns.numbered_columns.Given as goal

abbrev pub invariant-loop-number : goal.invariant-loop-number
invariant-loop-number l = variables_of l.columns.items ≡ columns_named (numbered_names (l.front ∷ []) l.number)
