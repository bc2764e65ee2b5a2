use Rattle.mv_encoding.proofs.codes.+codes_below.Given as goal

abbrev pub decreases-codes_below : goal.decreases-codes_below
decreases-codes_below l = l.bits
