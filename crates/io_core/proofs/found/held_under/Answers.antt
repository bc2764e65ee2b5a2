use Rattle.std.proofs.Common.{sym, ◌∙◌}
use Rattle.io_core.proofs.Places.{bytes_at_place, nothing_at_end}
use Rattle.io_core.proofs.found.held_under.Goals as goal

pub returns-then-place-files : goal.returns-then-place-files
returns-then-place-files c =
    c.deref.ensures.value
    ∙ sym (bytes_at_place c.args.files.now c.args.name.now c.place_of-place.result c.index-files-place.result c.place_of-place.ensures.place c.if-place-files.true)

pub returns-else-place-files : goal.returns-else-place-files
returns-else-place-files c =
    sym (nothing_at_end c.args.files.now c.args.name.now c.place_of-place.result c.place_of-place.ensures.place c.if-place-files.false)
