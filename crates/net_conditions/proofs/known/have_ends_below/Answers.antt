use Rattle.std.proofs.Common.{rules, ◌<◌, [], ◌∷◌, Decides, All}
use Rattle.net_model.specs.Nets.{latch_of}
use Rattle.net_conditions.proofs.Listed.{Decides-mapped}
use Rattle.net_conditions.proofs.known.have_ends_below.Goals as goal

pub returns : goal.returns
returns c =
    let plain : Decides c.all.result (All (λ latch. All (λ signal. signal < c.args.count) (latch.input.0 ∷ latch.output.0 ∷ [])) c.args.latches.now) = search rules in
    Decides-mapped latch_of (λ latch. All (λ signal. signal < c.args.count) (latch.input ∷ latch.output ∷ [])) c.all.result c.args.latches.now plain
