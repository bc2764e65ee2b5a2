use Rattle.std.proofs.Common.{◌≡◌, ◌+◌, ◌<◌, ◌≤◌, All, sym, subst, arith}
use Rattle.std.specs.List.{range_with_len}
use Rattle.std.proofs.lemmas.Result.{IfOk-weaker}
use Rattle.automata_tests.proofs.Ruling.{all-in-range}
use Rattle.automata_tests.proofs.codes.levels_in.Goals as goal

pub returns-clause-within : goal.returns-clause-within
returns-clause-within c =
    let there : c.args.first + c.args.count ≤ c.args.space.now.levels = omega (arith, c.if-first-count.false, c.levels.ensures.levels) in
    IfOk-weaker c.levels_from.result (λ levels. levels ≡ range_with_len c.args.first c.args.count) (All (λ level. level < c.args.space.now.levels))
    (λ levels is. subst (All (λ level. level < c.args.space.now.levels)) (sym is) (all-in-range c.args.first c.args.count c.args.space.now.levels there))
    c.levels_from.ensures
