use Rattle.printed_nets.proofs.Meant.{printed_stands, printed_automaton}
use Rattle.printed_nets.proofs.printed_texts_stand_for_networks.Goals as goal

pub returns-clause-network : goal.returns-clause-network
returns-clause-network c = printed_stands

pub returns-clause-automaton : goal.returns-clause-automaton
returns-clause-automaton c = printed_automaton
