use Rattle.det_core.proofs.membership.+has_code.Given as goal

abbrev pub decreases-has_code : goal.decreases-has_code
decreases-has_code l = l.letters
