use Rattle.std.proofs.Common.{◌^◌, ◌<◌, ◌≤◌, arith}
use Rattle.std.proofs.Math.Pow.{pow_mono}
use Rattle.std.proofs.lemmas.Nat.{one_shl}
use Rattle.bench_diagrams.proofs.conjunctions.power_of_two.Goals as goal

pub returns-clause-few : goal.returns-clause-few
returns-clause-few c =
    let few : 2 ^ c.args.exponent ≤ 8388608 = pow_mono c.requires in
    let fits : c.args.exponent < 64 = omega (arith, c.requires) in
    rw (one_shl c.args.exponent 64 fits) few
