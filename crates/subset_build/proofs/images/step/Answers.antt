use Rattle.std.proofs.Common.{sym, subst}
use Rattle.std.proofs.lemmas.Result.{IfOk-weaker}
use Rattle.node_table.specs.Table.{value_at}
use Rattle.bdd_ops.specs.Levels.{sources, IsRisingMap, TargetsWithin, renamed}
use Rattle.bdd_ops.specs.Meaning.{StandsFor, DependsOn}
use Rattle.subset_build.specs.Relations.{Relation, present_of, Reads}
use Rattle.subset_build.specs.Subsets.{IsImage}
use Rattle.subset_build.specs.Preparing.{IsStepOf}
use Rattle.subset_build.proofs.Maps.{whole-rises, whole-within}
use Rattle.subset_build.proofs.Stepping.{plan-depends, plan-image}
use Rattle.subset_build.proofs.images.step.Goals as goal

pub rename-requires-clause-rising : goal.rename-requires-clause-rising
rename-requires-clause-rising c =
    let (rel, ready, set) = c.requires in
    subst IsRisingMap (sym ready.prepared.map_is) (whole-rises c.args.space.now.levels rel.keep rel.state ready.order ready.prepared.keep_rises)

pub rename-requires-clause-covered : goal.rename-requires-clause-covered
rename-requires-clause-covered c =
    let (rel, ready, set) = c.requires in
    subst (λ map. DependsOn c.image.new.space (sources map) c.in_ok-image.image) (sym ready.prepared.map_is)
    (plan-depends c.args.space.now c.image.new.space c.args.parts.now c.args.prepared.now rel c.args.set c.in_ok-image.image ready set c.in_ok-image.ensures.ok)

pub rename-requires-clause-within : goal.rename-requires-clause-within
rename-requires-clause-within c =
    let (rel, ready, set) = c.requires in
    subst (λ levels. TargetsWithin levels c.args.prepared.now.map) (sym c.in_ok-image.ensures.levels)
    (subst (TargetsWithin c.args.space.now.levels) (sym ready.prepared.map_is) (whole-within c.args.space.now.levels rel.keep rel.state ready.order))

pub returns-clause-image : goal.returns-clause-image
returns-clause-image c =
    let a = c.args.space.now in
    let b = c.image.new.space in
    let e = c.rename.new.space in
    IfOk-weaker c.rename.result (λ f. StandsFor e f (λ bits. value_at b c.in_ok-image.image (renamed c.args.prepared.now.map bits)))
    (λ f. (rel : Relation) → IsStepOf a c.args.parts.now c.args.prepared.now rel → Reads a (present_of rel.state) c.args.set → IsImage e rel (value_at a c.args.set) f)
    (λ f stands rel ready set. plan-image a b c.args.parts.now c.args.prepared.now rel c.args.set c.in_ok-image.image ready set c.in_ok-image.ensures.ok e f stands)
    c.rename.ensures.ok
