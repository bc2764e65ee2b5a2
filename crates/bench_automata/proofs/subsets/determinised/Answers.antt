use Rattle.std.proofs.Common.{◌≡◌, ◌+◌, ◌*◌, ◌≤◌, ◌∙◌, arith}
use Rattle.bench_automata.proofs.Latches.{in-order}
use Rattle.bench_automata.proofs.subsets.determinised.Goals as goal

pub determinise-requires-clause-order : goal.determinise-requires-clause-order
determinise-requires-clause-order c =
    let same : c.all_zero.new.space.levels ≡ c.args.space.now.levels = c.all_zero.ensures.levels ∙ c.copying_parts.ensures.levels in
    let room : c.args.letters + 2 * c.args.latches ≤ c.all_zero.new.space.levels = omega (arith, same, c.requires.levels) in
    rw (c.in_ok-keep.ensures, c.in_ok-state.ensures) (in-order c.all_zero.new.space.levels c.args.letters c.args.latches room)
