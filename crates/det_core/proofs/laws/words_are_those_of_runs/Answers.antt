use Rattle.det_core.proofs.Runs.{words-by-runs}
use Rattle.det_core.proofs.laws.words_are_those_of_runs.Goals as goal

pub returns : goal.returns
returns c t letters det rule word = words-by-runs t letters det rule word
