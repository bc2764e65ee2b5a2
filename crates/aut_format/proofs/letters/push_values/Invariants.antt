use Rattle.std.proofs.Common.{◌≡◌, ◌++◌, drop}
use Rattle.aut_format.specs.Fields.{blank_before}
use Rattle.aut_format.proofs.letters.push_values.Given as goal

abbrev pub invariant-loop-value : goal.invariant-loop-value
invariant-loop-value l = l.text.items ++ blank_before (drop l.value l.domain) ≡ l.initial.text.items ++ blank_before l.domain
