use Rattle.std.proofs.Common.{◌≡◌, ◌*◌, ◌≤◌}
use Rattle.name_table.specs.CodeBits.{bits_in}
use Rattle.net_model.specs.Nets.{net_of}
use Rattle.net_problem.specs.ProblemBits.{own_before}
use Rattle.net_problem.proofs.bit_counts.own_bits.Given as goal

abbrev pub invariant-loop-signal : goal.invariant-loop-signal
invariant-loop-signal l = record { before : l.bits ≡ bits_in (own_before (net_of l.net) l.signal); few : l.bits ≤ 64 * l.signal }
