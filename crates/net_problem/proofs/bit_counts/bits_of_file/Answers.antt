use Rattle.std.proofs.Common.{◌≡◌, ◌*◌, sym, ap, ◌∙◌, arith}
use Rattle.net_model.specs.Machines.{machine_of}
use Rattle.net_model.specs.Problems.{file_of}
use Rattle.net_problem.specs.ProblemBits.{file_bits}
use Rattle.net_problem.proofs.MachineBits.{machine-bits}
use Rattle.net_problem.proofs.bit_counts.bits_of_file.Goals as goal

pub returns-in-Machine-clause-bits : goal.returns-in-Machine-clause-bits
returns-in-Machine-clause-bits c =
    let counted : c.from.result ≡ c.code_bits.result = c.from.ensures in
    ap (λ n. 2 * n) (counted ∙ c.code_bits.ensures.bits) ∙ sym (machine-bits (machine_of c.in-Machine.machine)) ∙ ap (λ file. file_bits (file_of file)) (sym c.in-Machine.is)
