use Rattle.lex_core.proofs.Standing.{words_stand, lines_rise}
use Rattle.lex_core.proofs.laws.lines_are_in_order.Goals as goal

pub returns-clause-words : goal.returns-clause-words
returns-clause-words c = words_stand

pub returns-clause-numbers : goal.returns-clause-numbers
returns-clause-numbers c = lines_rise
