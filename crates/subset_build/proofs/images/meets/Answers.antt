use Rattle.subset_build.proofs.Values.{common}
use Rattle.subset_build.proofs.images.meets.Goals as goal

pub returns-clause-ok : goal.returns-clause-ok
returns-clause-ok c =
    common c.args.space.now c.and.new.space c.args.f c.args.g c.in_ok-both.both c.ne.result c.in_ok-both.ensures.ok c.ne.ensures
