use Rattle.std.proofs.Common.{map, sym, ap, ◌∙◌}
use Rattle.net_model.specs.Nets.{net_of}
use Rattle.net_model.proofs.Computed.{only_one, auto_decided}
use Rattle.net_model.proofs.net.Net.is_auto.Goals as goal

pub returns-then-is_named_acc : goal.returns-then-is_named_acc
returns-then-is_named_acc c =
    auto_decided (net_of c.args.self.now) _ c.has_acceptance.result
    (ap (map (λ v. v.0)) (sym c.as_slice.ensures.value) ∙ only_one c.as_slice.result.now _ c.in-len1.len_at_least c.in-len1.len_below)
    (sym c.is_named_acc.ensures ∙ c.if-is_named_acc.true) c.has_acceptance.ensures
