use Rattle.std.proofs.Common.{◌∙◌, ℕ, List, Err, inl, inr, sym, ap, subst, arith}
use Rattle.std.proofs.lemmas.Result.{err_from_is_err_and}
use Rattle.node_table.specs.Table.{value_at}
use Rattle.bdd_ops.specs.Meaning.{IsShort}
use Rattle.part_relation.proofs.Early.{taken-next, taken-all, taken-short}
use Rattle.part_relation.proofs.images.image.Goals as goal

pub loop-place-preserved : goal.loop-place-preserved
loop-place-preserved c =
    taken-next c.args.space.now c.args.parts.now c.args.plan.now c.args.from c.requires.plan c.loop-place.place (omega (arith, c.len-place-end.ensures)) c.loop-place.space c.take.new.space c.loop-place.left c.in_ok-left-2.left c.requires.parts c.loop-place.invariant
    c.in_ok-left-2.ensures.ok c.in_ok-left-2.ensures.grows c.in_ok-left-2.ensures.levels

pub returns-clause-ok : goal.returns-clause-ok
returns-clause-ok c =
    taken-all c.args.space.now c.args.parts.now c.args.plan.now c.args.from c.requires.plan c.loop-place.space c.loop-place.place c.loop-place.left (omega (arith, c.len-place-end.ensures)) c.loop-place.invariant

pub returns-in_err-left-clause-needed : goal.returns-in_err-left-clause-needed
returns-in_err-left-clause-needed c full =
    let back = err_from_is_err_and c.from_residual.result c.from_residual.ensures.1 in
    let Short : List ℕ → Type 0 = λ levels. IsShort c.exists.new.space levels (λ bits. value_at c.args.space.now c.args.from bits) in
    inl (subst Short c.first.ensures (c.in_err-left.ensures.needed (ap Err (sym back.2) ∙ sym back.1 ∙ full)))

pub returns-in_err-left-2-clause-needed : goal.returns-in_err-left-2-clause-needed
returns-in_err-left-2-clause-needed c full =
    let back = err_from_is_err_and c.from_residual-in_err-left-2.result c.from_residual-in_err-left-2.ensures.1 in
    inr (
      c.loop-place.place,
      taken-short c.args.space.now c.args.parts.now c.args.plan.now c.args.from c.requires.plan c.loop-place.place (omega (arith, c.len-place-end.ensures, c.loop-place-test.true)) c.loop-place.space c.take.new.space c.loop-place.left c.requires.parts c.loop-place.invariant
          (c.in_err-left-2.ensures.needed (ap Err (sym back.2) ∙ sym back.1 ∙ full)),
    )
