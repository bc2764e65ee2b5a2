use Rattle.std.proofs.Common.{arith}
use Rattle.subset_build.specs.Relations.{present_of}
use Rattle.subset_build.proofs.Making.{ground-grows, reads-grow, level-low, made-came, made-state}
use Rattle.subset_build.proofs.determinising.state_of.Goals as goal

pub step-requires : goal.step-requires
step-requires c =
    let (rel, ground, set) = c.requires in
    let a = c.args.space.now in
    let b = c.meets.new.space in
    (rel, (ground-grows a b c.in_ok-accepting.ensures.grows c.in_ok-accepting.ensures.levels c.args.parts.now c.args.prepared.now rel c.args.acc c.args.valid ground).steps, reads-grow a b c.in_ok-accepting.ensures.grows (present_of rel.state) c.args.set set)

pub moves_of-requires-clause-exists : goal.moves_of-requires-clause-exists
moves_of-requires-clause-exists c =
    let (rel, ground, set) = c.requires in
    let low = level-low c.args.space.now.levels rel.keep rel.state c.args.prepared.now.level ground.steps.order ground.steps.prepared.level_is in
    omega (arith, low, c.in_ok-accepting.ensures.levels, c.in_ok-image.ensures.levels)

pub returns-in_err-moves-clause-came : goal.returns-in_err-moves-clause-came
returns-in_err-moves-clause-came c rel ground set =
    made-came c.args.space.now c.meets.new.space c.step.new.space c.moves_of.new.space rel c.args.parts.now c.args.prepared.now c.args.acc c.args.valid c.args.set c.in_ok-image.image ground set
    c.in_ok-accepting.ensures.grows c.in_ok-accepting.ensures.levels c.in_ok-image.ensures.grows c.moves_of.ensures.grows c.in_ok-image.ensures.valid c.in_ok-image.ensures.image c.args.sets.now c.moves_of.new.sets c.moves_of.ensures.came

pub returns-clause-ok : goal.returns-clause-ok
returns-clause-ok c rel k ground set here =
    made-state c.args.space.now c.meets.new.space c.step.new.space c.moves_of.new.space rel c.args.parts.now c.args.prepared.now c.args.acc c.args.valid c.args.set c.in_ok-image.image ground set
    c.in_ok-accepting.ensures.grows c.in_ok-accepting.ensures.levels c.in_ok-image.ensures.grows c.moves_of.ensures.grows c.in_ok-image.ensures.valid c.in_ok-image.ensures.image c.moves_of.new.sets k c.in_ok-accepting.accepting c.in_ok-moves.moves.items here c.in_ok-accepting.ensures.ok c.in_ok-moves.ensures.ok

pub returns-clause-came : goal.returns-clause-came
returns-clause-came c rel ground set =
    made-came c.args.space.now c.meets.new.space c.step.new.space c.moves_of.new.space rel c.args.parts.now c.args.prepared.now c.args.acc c.args.valid c.args.set c.in_ok-image.image ground set
    c.in_ok-accepting.ensures.grows c.in_ok-accepting.ensures.levels c.in_ok-image.ensures.grows c.moves_of.ensures.grows c.in_ok-image.ensures.valid c.in_ok-image.ensures.image c.args.sets.now c.moves_of.new.sets c.moves_of.ensures.came
