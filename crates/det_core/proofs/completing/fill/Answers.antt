use Rattle.std.proofs.Common.{◌&&◌, not, ◌∙◌, true, sym, subst}
use Rattle.std.proofs.lemmas.Bool.{eqb-true, eq-eqb, true≢false}
use Rattle.node_table.specs.Table.{value_at}
use Rattle.bdd_ops.specs.Meaning.{StandsFor}
use Rattle.det_core.specs.Automata.{is_covered}
use Rattle.det_core.specs.Filling.{IsFilled}
use Rattle.det_core.proofs.Completions.{filled-already, filled-more}
use Rattle.det_core.proofs.completing.fill.Goals as goal

pub returns-then-eq-clause-ok : goal.returns-then-eq-clause-ok
returns-then-eq-clause-ok c =
    filled-already c.args.space.now c.uncovered.new.space c.in_ok-rest.ensures.grows c.args.valid c.in_ok-rest.rest c.args.target c.args.moves.now.items c.requires.rule c.requires.targets
    (subst (λ list. StandsFor c.uncovered.new.space c.in_ok-rest.rest (λ bits. value_at c.args.space.now c.args.valid bits && not (is_covered c.args.space.now list bits))) c.deref.ensures.value c.in_ok-rest.ensures.ok)
    (eqb-true c.in_ok-rest.rest 0 (sym c.eq.ensures ∙ c.if-eq.true))

pub returns-clause-ok : goal.returns-clause-ok
returns-clause-ok c =
    let letters = value_at c.args.space.now c.args.valid in
    subst (λ list. IsFilled c.args.space.now c.uncovered.new.space letters c.args.target c.args.moves.now.items list true) (sym c.in_ok-add.ensures.ok)
    (filled-more c.args.space.now c.uncovered.new.space c.in_ok-rest.ensures.grows c.args.valid c.in_ok-rest.rest c.args.target c.args.moves.now.items c.requires.rule c.requires.targets
    (subst (λ list. StandsFor c.uncovered.new.space c.in_ok-rest.rest (λ bits. value_at c.args.space.now c.args.valid bits && not (is_covered c.args.space.now list bits))) c.deref.ensures.value c.in_ok-rest.ensures.ok)
    (λ none. true≢false (sym (eq-eqb c.in_ok-rest.rest 0 none) ∙ sym c.eq.ensures ∙ c.if-eq.false)))
