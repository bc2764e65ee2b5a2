use Rattle.aut_format.proofs.counts.Counts.+of_ref.Given as goal

abbrev pub decreases-of_ref : goal.decreases-of_ref
decreases-of_ref l = l.r
