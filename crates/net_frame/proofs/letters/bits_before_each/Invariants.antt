use Rattle.std.proofs.Common.{◌≡◌, ◌*◌, ◌≤◌, map}
use Rattle.std.specs.List.{range_with_len}
use Rattle.name_table.specs.CodeBits.{bits_in}
use Rattle.net_model.specs.Nets.{net_of}
use Rattle.net_problem.specs.ProblemBits.{own_before}
use Rattle.net_frame.proofs.letters.bits_before_each.Given as goal

abbrev pub invariant-loop-signal : goal.invariant-loop-signal
invariant-loop-signal l = record {
  bits : l.bits ≡ bits_in (own_before (net_of l.net) l.signal);
  few : l.bits ≤ 64 * l.signal;
  before : l.before.items ≡ map (λ signal. bits_in (own_before (net_of l.net) signal)) (range_with_len 0 l.signal);
}
