use Rattle.std.proofs.Common.{◌<◌, ℕ, map, nat_eq, length, ap, ◌∙◌}
use Rattle.std.proofs.lemmas.Result.{IfOk-weaker}
use Rattle.net_model.specs.Conditions.{drives, times_driven}
use Rattle.net_model.specs.Nets.{net_of}
use Rattle.net_conditions.specs.Marks.{IsSetOf}
use Rattle.net_conditions.proofs.Named.{are_below, drives_known}
use Rattle.net_conditions.proofs.Listed.{Decides-counted}
use Rattle.net_conditions.proofs.Marking.{IsSetOf-alone}
use Rattle.net_conditions.proofs.signals.driven_signals.Goals as goal

pub of-requires : goal.of-requires
of-requires c =
    are_below (length c.args.net.now.names) c.len.result (map (λ v. v.0) c.deref.result.now) (drives (net_of c.args.net.now)) c.len.ensures.len
    (ap (map (λ v. v.0)) c.deref.ensures.value ∙ c.in_ok-drives.ensures) (drives_known (net_of c.args.net.now) c.requires)

pub returns : goal.returns
returns c =
    let driven : ℕ → Type 0 = λ signal. 0 < times_driven (net_of c.args.net.now) signal in
    IfOk-weaker c.of.result _ (λ set. IsSetOf set driven)
    (λ set adds. IsSetOf-alone driven c.len.result _ (drives (net_of c.args.net.now)) set adds
    (ap (map (λ v. v.0)) c.deref.ensures.value ∙ c.in_ok-drives.ensures)
    (λ signal. Decides-counted (nat_eq signal) (drives (net_of c.args.net.now))))
    c.of.ensures
