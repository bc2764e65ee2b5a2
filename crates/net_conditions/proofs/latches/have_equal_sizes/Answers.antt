use Rattle.std.proofs.Common.{rules, ◌≡◌, Decides, All, length}
use Rattle.net_model.specs.Nets as nets
use Rattle.net_model.specs.Nets.{latch_of}
use Rattle.net_model.specs.Spellings.{domain_at}
use Rattle.net_conditions.proofs.Listed.{Decides-mapped}
use Rattle.net_conditions.proofs.latches.have_equal_sizes.Goals as goal

pub returns : goal.returns
returns c =
    let sized : nets.Latch → Type 0 = λ latch. length (domain_at c.args.net.now.names latch.input) ≡ length (domain_at c.args.net.now.names latch.output) in
    let plain : Decides c.all.result (All (λ latch. sized (latch_of latch)) c.args.net.now.latches.items) = search rules in
    Decides-mapped latch_of sized c.all.result c.args.net.now.latches.items plain
