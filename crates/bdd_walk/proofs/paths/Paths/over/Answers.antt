use Rattle.std.proofs.Common.{List, sym, subst}
use Rattle.bdd_walk.specs.Paths.{Path, ArePathsOf}
use Rattle.bdd_walk.proofs.Ways.{are-paths-of}
use Rattle.bdd_walk.proofs.paths.Paths.over.Goals as goal

pub returns-clause-meaning : goal.returns-clause-meaning
returns-clause-meaning c =
    let P : List Path → Type 0 = λ paths. ArePathsOf c.args.space.now c.args.f paths in
    subst P (sym c.in_ok-trail.ensures.left) (are-paths-of c.args.space.now c.args.f c.requires)
