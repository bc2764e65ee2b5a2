use Rattle.std.proofs.Common.{List, sym, ◌∙◌, subst}
use Rattle.bdd_walk.specs.Splits.{IsSplit}
use Rattle.bdd_walk.specs.Splitting.{list_at}
use Rattle.bdd_walk.specs.declared.splits.Piece.{Piece}
use Rattle.bdd_walk.proofs.Gathered.{is-split, guards-above, asks-grow}
use Rattle.bdd_walk.proofs.splits.split.Goals as goal

pub returns-in-Ok-clause-ok : goal.returns-in-Ok-clause-ok
returns-in-Ok-clause-ok c =
    let P : List Piece → Type 0 = λ l. IsSplit c.gather.new.space c.args.level c.args.f c.args.within l in
    let at = c.in_ok-place.ensures.ok in
    subst P (sym (c.in-Ok.ensures.items ∙ c.list.ensures))
    (is-split c.gather.new.space c.args.level (record { f = c.args.f; within = c.args.within }) (list_at c.gather.new.memo c.in_ok-place.place) at.gathered)

pub returns-in-Ok-clause-guards : goal.returns-in-Ok-clause-guards
returns-in-Ok-clause-guards c =
    let b = c.gather.new.space in
    guards-above b c.args.level c.args.f c.args.within c.in-Ok.pieces.items (asks-grow c.args.space.now b c.in_ok-place.ensures.grows c.args.level c.args.within c.requires.within c.requires.above) (returns-in-Ok-clause-ok c)
