use Rattle.std.proofs.Common.{refl}
use Rattle.bdd_ops.specs.Recursion.{low_of, ite_value}
use Rattle.bdd_ops.proofs.Hiding.{constant-hides}
use Rattle.bdd_ops.proofs.quantifiers.known_constant.Goals as goal

pub returns-in-None-level-clause-some : goal.returns-in-None-level-clause-some
returns-in-None-level-clause-some c levels =
    constant-hides levels c.args.space.now (low_of c.args.space.now c.args.c.now) c.in-Some.r (ite_value c.args.space.now c.args.c.now) (c.in-None-level.ensures.constant.0 refl) c.in-Some.ensures.some
