use Rattle.std.proofs.Common.{◌≡◌, ◌<◌, ◌+◌, ℕ, Bool, List, length, slice_index, sym, ap, ◌∙◌, subst, arith}
use Rattle.std.proofs.lemmas.List.{get_or_read}
use Rattle.part_relation.specs.Supports.{IsSupport, AreTurns, ArePutOff}
use Rattle.part_relation.proofs.Turns.{turns-next, whole}
use Rattle.part_relation.proofs.scheduling.turns_of.Goals as goal

pub loop-place-preserved : goal.loop-place-preserved
loop-place-preserved c =
    let place = c.loop-place.place in
    let old = c.loop-place.turns.items in
    let marks = c.in_ok-marks.marks.items in
    let new = c.put_off.new.turns in
    let n : c.loop-place.turns.len ≡ length old = omega arith in
    let same : length new ≡ length old = c.put_off.ensures.len ∙ ap length c.deref_mut.ensures.value in
    let refs : length c.refs-part-items.result.now ≡ length c.args.parts.now = ap length c.refs-part-items.ensures.refs in
    let within : place < length c.refs-part-items.result.now = omega arith in
    let part : c.part-item.result ≡ slice_index c.args.parts.now place =
    get_or_read c.refs-part-items.result.now place c.part-item.result within c.part-item.is 0 ∙ ap (λ xs. slice_index xs place) c.refs-part-items.ensures.refs in
    let Supports : ℕ → Type 0 = λ r. IsSupport c.args.space.now r marks in
    let PutOff : List ℕ → Type 0 = λ from. ArePutOff from marks (place + 1) (length marks) new in
    let Marked : List Bool → Type 0 = λ by. ArePutOff c.deref_mut.result.now by (place + 1) (length by) new in
    let Turns : List ℕ → Type 0 = λ turns. AreTurns c.args.space.now c.args.parts.now (place + 1) turns in
    subst Turns (sym (whole c.loop-place.turns.len new old same n))
    (turns-next c.args.space.now c.args.parts.now place marks (subst Supports part c.in_ok-marks.ensures) old new c.loop-place.invariant
    (subst PutOff c.deref_mut.ensures.value (subst Marked c.deref.ensures.value c.put_off.ensures)))
