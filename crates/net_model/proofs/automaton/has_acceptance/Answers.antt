use Rattle.std.proofs.lemmas.Bool.Decides.{Decides-at}
use Rattle.std.specs.List.{list_any}
use Rattle.net_model.specs.Accepted.{computes}
use Rattle.net_model.specs.Conditions.{latch_outputs}
use Rattle.net_model.specs.Nets.{net_of}
use Rattle.net_model.proofs.Computed.{acceptance_decided}
use Rattle.net_model.proofs.automaton.has_acceptance.Goals as goal

pub returns-then-is_binary : goal.returns-then-is_binary
returns-then-is_binary c =
    let net = net_of c.args.net.now in
    Decides-at c.is_computed.result (list_any (computes (latch_outputs net) c.args.signal.0) net.tables) c.is_computed.ensures
    (acceptance_decided net c.args.signal.0 (c.is_binary.ensures.0 c.if-is_binary.true))
