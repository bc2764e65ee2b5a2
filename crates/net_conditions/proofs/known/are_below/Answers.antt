use Rattle.std.proofs.Common.{rules, ◌<◌, Decides, All}
use Rattle.net_conditions.proofs.Listed.{Decides-mapped}
use Rattle.net_conditions.proofs.known.are_below.Goals as goal

pub returns : goal.returns
returns c =
    let plain : Decides c.all.result (All (λ v. v.0 < c.args.count) c.args.signals.now) = search rules in
    Decides-mapped (λ v. v.0) (λ signal. signal < c.args.count) c.all.result c.args.signals.now plain
