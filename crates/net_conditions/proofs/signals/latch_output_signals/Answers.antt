use Rattle.std.proofs.Common.{map, length, Contains, ap, ◌∙◌}
use Rattle.std.proofs.lemmas.Result.{IfOk-weaker}
use Rattle.net_model.specs.Conditions.{latch_outputs}
use Rattle.net_model.specs.Nets.{net_of}
use Rattle.net_conditions.specs.Marks.{IsSetOf}
use Rattle.net_conditions.proofs.Named.{are_below, latch_outputs_known}
use Rattle.net_model.proofs.Computed.{Decides-member}
use Rattle.net_conditions.proofs.Marking.{IsSetOf-alone}
use Rattle.net_conditions.proofs.signals.latch_output_signals.Goals as goal

pub of-requires : goal.of-requires
of-requires c =
    are_below (length c.args.net.now.names) c.len.result (map (λ v. v.0) c.deref.result.now) (latch_outputs (net_of c.args.net.now)) c.len.ensures.len
    (ap (map (λ v. v.0)) c.deref.ensures.value ∙ c.in_ok-outputs.ensures) (latch_outputs_known (net_of c.args.net.now) c.requires)

pub returns : goal.returns
returns c =
    let held = Contains (latch_outputs (net_of c.args.net.now)) in
    IfOk-weaker c.of.result _ (λ set. IsSetOf set held)
    (λ set adds. IsSetOf-alone held c.len.result _ (latch_outputs (net_of c.args.net.now)) set adds
    (ap (map (λ v. v.0)) c.deref.ensures.value ∙ c.in_ok-outputs.ensures)
    (Decides-member (latch_outputs (net_of c.args.net.now))))
    c.of.ensures
