use Rattle.std.proofs.Common.{map, length, Decides, ap, ◌∙◌, subst}
use Rattle.std.proofs.lemmas.Result.{IfOk-weaker}
use Rattle.net_model.specs.Conditions.{drives}
use Rattle.net_model.specs.Nets.{net_of}
use Rattle.net_conditions.proofs.Named.{are_below, drives_known}
use Rattle.net_conditions.proofs.Listed.{IsOnce}
use Rattle.net_conditions.proofs.conditions.is_driven_once.Goals as goal

pub are_distinct-requires : goal.are_distinct-requires
are_distinct-requires c =
    are_below (length c.args.net.now.names) c.len.result (map (λ v. v.0) c.deref.result.now) (drives (net_of c.args.net.now)) c.len.ensures.len
    (ap (map (λ v. v.0)) c.deref.ensures.value ∙ c.in_ok-drives.ensures) (drives_known (net_of c.args.net.now) c.requires)

pub returns : goal.returns
returns c =
    IfOk-weaker c.are_distinct.result _ (λ good. Decides good (IsOnce (drives (net_of c.args.net.now))))
    (λ good. subst (λ signals. Decides good (IsOnce signals)) (ap (map (λ v. v.0)) c.deref.ensures.value ∙ c.in_ok-drives.ensures))
    c.are_distinct.ensures
