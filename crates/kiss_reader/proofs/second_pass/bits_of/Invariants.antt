use Rattle.std.proofs.Common.{◌≡◌, map, take}
use Rattle.net_model.specs.KissTexts.{bit_of}
use Rattle.kiss_reader.proofs.second_pass.bits_of.Given as goal

abbrev pub invariant-loop-byte : goal.invariant-loop-byte
invariant-loop-byte l = l.bits.items ≡ map bit_of (take l.byte-index l.word)
