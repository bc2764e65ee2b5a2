use Rattle.std.proofs.Common.{◌≡◌, ◌+◌, ◌++◌, drop}
use Rattle.name_table.specs.CodeBits.{bits_in}
use Rattle.net_model.specs.Printed.{entry_fields}
use Rattle.bdd_walk.specs.Paths.{path_of}
use Rattle.aut_format.specs.Fields.{blank_after}
use Rattle.aut_format.specs.Rows.{entries_along}
use Rattle.aut_format.proofs.Parts.{IsLeft}
use Rattle.aut_format.proofs.rows.push_entries.Given as goal

abbrev pub invariant-loop-var : goal.invariant-loop-var
invariant-loop-var l = record {
  place : l.level + bits_in (drop l.var l.scope) ≡ l.coding.first + bits_in l.scope;
  left : IsLeft (path_of l.path) (path_of l.left) l.level;
  written : l.text.items ++ blank_after (entry_fields (drop l.var l.scope) (entries_along (path_of l.path) l.level (drop l.var l.scope))) ≡ l.initial.text.items ++ blank_after (entry_fields l.scope (entries_along (path_of l.path) l.coding.first l.scope));
}
