use Rattle.std.proofs.Common.{◌≡◌, ◌++◌, [], ◌∷◌, sym, ap, ◌∙◌, refl}
use Rattle.std.proofs.lemmas.Bool.{eqb-true, not-false}
use Rattle.bdd_walk.specs.declared.trail.Trail.{Trail}
use Rattle.bdd_walk.proofs.Trails.{trail-back, left-back, left-turned}
use Rattle.bdd_walk.proofs.trail.Trail.turn.Goals as goal

pub returns-then-ne-2-clause-left : goal.returns-then-ne-2-clause-left
returns-then-ne-2-clause-left c =
    let a : Trail = record { lits = c.pop.new.self; others = c.pop-in-Some.new.self; below = c.loop-lit.self.below } in
    let turned : Trail = record { lits = c.push.new.self.lits; others = c.push.new.self.others; below = c.in-Some-pop.other } in
    left-turned c.args.space.now a c.loop-lit.self c.in-Some.lit c.in-Some-pop.other turned c.loop-lit.invariant.trail c.in-Some.ensures.items c.in-Some-pop.ensures.items c.loop-lit.invariant.done
    c.push.ensures.lits
    (c.push.ensures.others ∙ ap (λ r. c.pop-in-Some.new.self.items ++ r ∷ []) c.zero-zero.ensures.number)
    refl
    ∙ c.loop-lit.invariant.left

pub loop-lit-preserved : goal.loop-lit-preserved
loop-lit-preserved c =
    let t = c.args.space.now in
    let a : Trail = record { lits = c.pop.new.self; others = c.pop-in-Some.new.self; below = c.loop-lit.self.below } in
    let before = c.loop-lit.invariant in
    let none : c.in-Some-pop.other ≡ 0 = eqb-true c.in-Some-pop.other c.zero-zero.result (not-false _ (sym c.ne-in-Some.ensures ∙ c.if-ne-2.false)) ∙ c.zero-zero.ensures.number in
    record {
      trail = trail-back t a c.loop-lit.self c.in-Some.lit c.in-Some-pop.other before.trail c.in-Some.ensures.items c.in-Some-pop.ensures.items c.pop.ensures.capacity c.pop-in-Some.ensures.capacity before.done;
      left = left-back t a c.loop-lit.self c.in-Some.lit c.in-Some-pop.other before.trail c.in-Some.ensures.items c.in-Some-pop.ensures.items before.done before.done none ∙ before.left;
      done = before.done;
    }
