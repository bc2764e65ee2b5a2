use Rattle.automata_tests.proofs.drawing.+asks_between.Given as goal

abbrev pub decreases-asks_between : goal.decreases-asks_between
decreases-asks_between l = l.r
