use Rattle.printed_nets.proofs.Runs.{letters_are, same_words}
use Rattle.printed_nets.proofs.printed_networks_are_their_automata.Goals as goal

pub returns-clause-letters : goal.returns-clause-letters
returns-clause-letters c = letters_are

pub returns-clause-words : goal.returns-clause-words
returns-clause-words c = same_words
