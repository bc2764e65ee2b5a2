use Rattle.std.proofs.Common.{Decides, refl, sym, subst, ◌∙◌}
use Rattle.std.specs.List.{Any}
use Rattle.net_model.specs.Nets.{net_of}
use Rattle.net_conditions.specs.Accepted.{IsAcceptance}
use Rattle.net_conditions.proofs.Tabled.{accepted_by}
use Rattle.net_conditions.proofs.acceptance.has_acceptance.Goals as goal

pub returns-then-size_of-eq2 : goal.returns-then-size_of-eq2
returns-then-size_of-eq2 c =
    accepted_by (net_of c.args.net.now) c.args.states.now c.args.signal.0 c.args.net.now.tables.items c.is_computed.result refl c.requires
    (sym c.size_of.ensures ∙ c.if-size_of-eq2.true)
    (subst (λ tables. Decides c.is_computed.result (Any (IsAcceptance c.args.states.now c.args.signal.0) tables)) c.deref.ensures.value c.is_computed.ensures)
