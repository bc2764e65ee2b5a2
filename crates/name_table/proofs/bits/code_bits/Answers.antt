use Rattle.std.proofs.Common.{arith}
use Rattle.std.proofs.lemmas.Nat.{one_shl}
use Rattle.name_table.proofs.Powers.{code_is}
use Rattle.name_table.proofs.bits.code_bits.Goals as goal

pub returns-then-values-bits-clause-bits : goal.returns-then-values-bits-clause-bits
returns-then-values-bits-clause-bits c =
    let power = one_shl c.loop-bits.bits 64 (omega arith) in
    code_is c.args.values c.loop-bits.bits (omega (arith, power)) c.loop-bits.invariant

pub returns-clause-bits : goal.returns-clause-bits
returns-clause-bits c = code_is c.args.values 32 (omega arith) (λ k below. c.loop-bits.invariant k (omega arith))
