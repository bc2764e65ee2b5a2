use Rattle.subset_build.proofs.joining.+look.Given as goal

abbrev pub decreases-look : goal.decreases-look
decreases-look l = l.f
