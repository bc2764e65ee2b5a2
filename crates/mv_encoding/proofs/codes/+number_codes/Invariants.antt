use Rattle.mv_encoding.proofs.codes.+number_codes.Given as goal

abbrev pub decreases-number_codes : goal.decreases-number_codes
decreases-number_codes l = l.bits
