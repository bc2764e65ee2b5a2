use Rattle.std.proofs.Common.{◌≡◌, ◌*◌, ◌≤◌, take}
use Rattle.name_table.specs.CodeBits.{bits_in}
use Rattle.net_problem.proofs.bit_counts.bits_of_letter.Given as goal

abbrev pub invariant-loop-var : goal.invariant-loop-var
invariant-loop-var l = record { before : l.bits ≡ bits_in (take l.var l.scope); few : l.bits ≤ 32 * l.var }
