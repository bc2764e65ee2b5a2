use Rattle.std.proofs.Common.{◌≡◌, ◌<◌, ◌∙◌, ◌&&◌, ℕ, length, get_or, Option, IfSome, sym, subst}
use Rattle.std.proofs.lemmas.Option.{slice_get_within, get_or_from_slice_get}
use Rattle.node_table.specs.Table.{value_at}
use Rattle.bdd_ops.specs.Meaning.{StandsFor}
use Rattle.subset_build.proofs.Conjoined.{joined-more, joined-anew}
use Rattle.subset_build.proofs.joining.join_small.Goals as goal
use Rattle.subset_build.proofs.joining.join_small.Goals.{in-Some-2, in-None+in_ok-add-in-None}

pub loop-k-preserved : goal.loop-k-preserved
loop-k-preserved c =
    let old = c.args.space.now in
    let a = c.loop-k.space in
    let b = c.join.new.space in
    let parts = c.args.parts.now in
    let k = c.loop-k.k in
    let at = sym c.at.ensures ∙ c.in-Some.is in
    let here : k < length parts = slice_get_within parts k c.in-Some.part at in
    let part : get_or parts k 0 ≡ c.in-Some.part = get_or_from_slice_get parts k c.in-Some.part 0 at in
    elim c.match-branch-2.branch [
      | in-Some-2 w ↦
          let stands : StandsFor b w.in-Some-2.both (λ bits. value_at a c.loop-k.last bits && value_at a c.in-Some.part bits) = subst (λ (o : Option ℕ). IfSome o (λ r. StandsFor b r (λ bits. value_at a c.loop-k.last bits && value_at a c.in-Some.part bits))) w.in-Some-2.is c.in_ok-both.ensures.ok in
          rw (w.joined-is, w.last-is)
          (joined-more old a b parts c.loop-k.joined c.loop-k.last k c.loop-k.invariant c.requires here c.in_ok-both.ensures.grows c.in_ok-both.ensures.levels w.in-Some-2.both
          (subst (λ p. StandsFor b w.in-Some-2.both (λ bits. value_at a c.loop-k.last bits && value_at a p bits)) (sym part) stands))
      | in-None+in_ok-add-in-None w ↦
          rw (w.joined-is, w.last-is, w.in_ok-add-in-None.ensures.ok, ← part)
          (joined-anew old a b parts c.loop-k.joined c.loop-k.last k c.loop-k.invariant c.requires here c.in_ok-both.ensures.grows c.in_ok-both.ensures.levels)
    ]
