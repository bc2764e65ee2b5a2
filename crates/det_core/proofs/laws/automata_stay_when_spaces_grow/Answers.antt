use Rattle.det_core.proofs.Runs.{words-grow, rule-grows}
use Rattle.det_core.proofs.laws.automata_stay_when_spaces_grow.Goals as goal

pub returns-clause-words : goal.returns-clause-words
returns-clause-words c before after det grow valid word = words-grow before after grow det valid word

pub returns-clause-rule : goal.returns-clause-rule
returns-clause-rule c before after letters det grow rule = rule-grows before after grow letters det rule
