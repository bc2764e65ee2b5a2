use Rattle.printed_nets.proofs.Meant.{printed_means}
use Rattle.printed_nets.proofs.printed_texts_mean_their_automata.Goals as goal

pub returns : goal.returns
returns c = printed_means
