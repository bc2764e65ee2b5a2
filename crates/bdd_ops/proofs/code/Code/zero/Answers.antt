use Rattle.bdd_ops.proofs.Bits.{bit_of-zeroes}
use Rattle.bdd_ops.proofs.code.Code.zero.Goals as goal

pub returns : goal.returns
returns c k = bit_of-zeroes 32 k
