use Rattle.std.proofs.Common.{◌≡◌, ◌<◌, get_or, Some, slice_get, sym, ◌∙◌, length-set, arith}
use Rattle.std.proofs.lemmas.Option.{slice_get_within, get_or_from_slice_get}
use Rattle.part_relation.proofs.Turns.{marked-more}
use Rattle.part_relation.proofs.scheduling.marks_of.Goals as goal

pub loop-k-preserved : goal.loop-k-preserved
loop-k-preserved c =
    let at : slice_get c.args.levels.now c.loop-k.k ≡ Some c.in-Some.level = sym c.in-Some.ensures in
    let here : get_or c.args.levels.now c.loop-k.k 0 ≡ c.in-Some.level = get_or_from_slice_get c.args.levels.now c.loop-k.k c.in-Some.level 0 at in
    let low : get_or c.args.levels.now c.loop-k.k 0 < c.args.space.now.levels = c.requires c.loop-k.k 0 (slice_get_within c.args.levels.now c.loop-k.k c.in-Some.level at) in
    record {
      len = length-set c.loop-k.marks.items c.in-Some.level _ ∙ c.loop-k.invariant.len;
      marks = marked-more c.args.levels.now c.loop-k.marks.items c.loop-k.k c.in-Some.level at (omega (arith, here, low, c.loop-k.invariant.len)) c.loop-k.invariant.marks;
    }
