use Rattle.mv_encoding.proofs.spots.+same_bits.Given as goal

abbrev pub decreases-same_bits : goal.decreases-same_bits
decreases-same_bits l = l.bits
