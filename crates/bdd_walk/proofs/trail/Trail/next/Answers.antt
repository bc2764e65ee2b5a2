use Rattle.std.proofs.Common.{◌≡◌, [], sym, ◌∙◌}
use Rattle.std.proofs.lemmas.Bool.{eqb-true}
use Rattle.bdd_walk.specs.Walk.{paths_left}
use Rattle.bdd_walk.proofs.Trails.{left-none, left-one, trail-done}
use Rattle.bdd_walk.proofs.trail.Trail.next.Goals as goal

pub returns-then-eq-clause-none : goal.returns-then-eq-clause-none
returns-then-eq-clause-none c =
    let zero = c.zero-zero.ensures in
    let none : c.turn.new.self.below ≡ 0 = eqb-true c.turn.new.self.below c.zero-zero.result (sym c.eq.ensures ∙ c.if-eq.true) ∙ zero.number in
    let empty : paths_left c.args.space.now.nodes c.turn.new.self ≡ [] = left-none c.args.space.now c.turn.new.self none (c.turn.ensures.done none) in
    λ _. (sym c.turn.ensures.left ∙ empty, empty)

pub returns-clause-trail : goal.returns-clause-trail
returns-clause-trail c = trail-done c.args.space.now c.descend.new.self c.descend.ensures.trail c.zero-zero.result c.zero-zero.ensures

pub returns-clause-some : goal.returns-clause-some
returns-clause-some c =
    λ _. sym c.turn.ensures.left
    ∙ sym c.descend.ensures.left
    ∙ left-one c.args.space.now c.descend.new.self c.descend.ensures.trail c.descend.ensures.one c.zero-zero.result c.zero-zero.ensures.number
