use Rattle.std.proofs.Common.{◌≡◌, take}
use Rattle.name_table.specs.Variables.{numbers}
use Rattle.name_table.proofs.domain.are_numbers.Given as goal

abbrev pub invariant-loop-value : goal.invariant-loop-value
invariant-loop-value l = take l.value l.names ≡ numbers l.value
