use Rattle.std.proofs.Common.{◌≡◌, ◌++◌, drop}
use Rattle.name_table.specs.Variables.{names_of}
use Rattle.aut_format.specs.Fields.{blank_before}
use Rattle.aut_format.proofs.letters.push_names.Given as goal

abbrev pub invariant-loop-var : goal.invariant-loop-var
invariant-loop-var l =
    l.text.items ++ blank_before (names_of (drop l.var l.scope)) ≡ l.initial.text.items ++ blank_before (names_of l.scope)
