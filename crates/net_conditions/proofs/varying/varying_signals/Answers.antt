use Rattle.std.proofs.Common.{◌++◌, length, map, ap, ◌∙◌}
use Rattle.net_model.specs.Conditions.{latch_outputs}
use Rattle.net_model.specs.Nets.{net_of}
use Rattle.net_conditions.proofs.Named.{are_below, sources_known}
use Rattle.net_conditions.proofs.Closure.{varying_first, IsSetOf-varying}
use Rattle.net_conditions.proofs.varying.varying_signals.Goals as goal

pub of-requires : goal.of-requires
of-requires c =
    are_below (length c.args.net.now.names) c.len.result (map (λ v. v.0) c.deref.result.now) ((net_of c.args.net.now).inputs ++ latch_outputs (net_of c.args.net.now))
    c.len.ensures.len (ap (map (λ v. v.0)) c.deref.ensures.value ∙ c.in_ok-sources.ensures) (sources_known (net_of c.args.net.now) c.requires)

pub spread-requires-clause-varying : goal.spread-requires-clause-varying
spread-requires-clause-varying c =
    varying_first (net_of c.args.net.now) c.len.result (map (λ v. v.0) c.deref.result.now) c.in_ok-varying.varying c.len.ensures.len
    (ap (map (λ v. v.0)) c.deref.ensures.value ∙ c.in_ok-sources.ensures) c.in_ok-varying.ensures

pub returns : goal.returns
returns c = IsSetOf-varying (net_of c.args.net.now) c.add_outputs.new.varying c.add_outputs.ensures.varying c.loop-test.ensures.closed
