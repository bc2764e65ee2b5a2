use Rattle.std.proofs.Common.{◌≡◌, ◌&&◌, ◌∙◌, ℕ, List, Some, [], slice_get, slice_index, slice_index_or, sym, ap, subst}
use Rattle.std.proofs.lemmas.Option.{get_or_from_slice_get}
use Rattle.node_table.specs.Table.{Table, value_at}
use Rattle.bdd_ops.specs.Meaning.{IsShort}
use Rattle.part_relation.specs.Plans.{part_at}
use Rattle.part_relation.proofs.images.take.Goals as goal

pub returns-clause-needed : goal.returns-clause-needed
returns-clause-needed c full =
    let old : Table = c.args.space.now in
    let new : Table = c.and_exists.new.space in
    let number : ℕ = slice_index c.args.plan.now.order c.args.place in
    let there : slice_get c.args.parts.now number ≡ Some c.in-Some.part = ap (slice_get c.args.parts.now) (sym c.part.ensures) ∙ sym c.in-Some.ensures in
    let part_is : c.in-Some.part ≡ part_at c.args.parts.now c.args.plan.now c.args.place = sym (get_or_from_slice_get c.args.parts.now number c.in-Some.part 0 there) in
    let Short : List ℕ → ℕ → Type 0 = λ levels part. IsShort new levels (λ bits. value_at old c.args.left bits && value_at old part bits) in
    subst (Short (slice_index_or c.args.plan.now.hides c.args.place [])) part_is
    (subst (λ levels. Short levels c.in-Some.part) c.hides.ensures (c.and_exists.ensures.needed full))
