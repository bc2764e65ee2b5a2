use Rattle.std.proofs.Common.{◌≡◌, ◌↔◌, Bool, true, length, IfOk, Err, ap, subst}
use Rattle.std.specs.Prelude.{IfErr}
use Rattle.node_table.specs.Table.{Bits, Table, value_at}
use Rattle.det_core.specs.Automata.{BitWord, AreLetters, has_word, MeetsRule, IsComplete}
use Rattle.det_core.specs.Faults.{IsLimit}
use Rattle.subset_build.specs.Relations.{Relation, relation_of, HasRun}
use Rattle.subset_build.specs.Subsets.{AreSoMany}
use Rattle.subset_build.proofs.Exploring.{limit-from}
use Rattle.subset_build.proofs.Conjoined.{relation-same, letters-same, one-set}
use Rattle.subset_build.proofs.determinising.determinise.Goals as goal

pub returns-in-Ok-clause-words : goal.returns-in-Ok-clause-words
returns-in-Ok-clause-words c =
    let a : Table = c.args.space.now in
    let b : Table = c.join_small.new.space in
    let t : Table = c.determinise_joined.new.space in
    let Words : (Bits → Bool) → Relation → Type 0 = λ letters rel. IfOk c.determinise_joined.result (λ det. (word : BitWord) → AreLetters letters word → (has_word t det word ≡ true) ↔ HasRun rel word) in
    let rel = relation-same a b c.in-Ok.ensures.grows c.args.parts.now c.in-Ok.joined c.args.init c.args.acc c.args.keep.now c.args.state.now c.requires.init.valid c.requires.acc.valid c.in-Ok.ensures.same in
    subst (λ letters. Words letters (relation_of a c.args.parts.now c.args.init c.args.acc c.args.keep.now c.args.state.now)) (letters-same a b c.in-Ok.ensures.grows c.args.valid c.requires.valid.valid)
    (subst (Words (value_at b c.args.valid)) rel c.determinise_joined.ensures.words)

pub returns-in-Ok-clause-rule : goal.returns-in-Ok-clause-rule
returns-in-Ok-clause-rule c =
    let t : Table = c.determinise_joined.new.space in
    subst (λ (letters : Bits → Bool). IfOk c.determinise_joined.result (MeetsRule t letters)) (letters-same c.args.space.now c.join_small.new.space c.in-Ok.ensures.grows c.args.valid c.requires.valid.valid) c.determinise_joined.ensures.rule

pub returns-in-Ok-clause-complete : goal.returns-in-Ok-clause-complete
returns-in-Ok-clause-complete c =
    let t : Table = c.determinise_joined.new.space in
    subst (λ (letters : Bits → Bool). IfOk c.determinise_joined.result (IsComplete t letters)) (letters-same c.args.space.now c.join_small.new.space c.in-Ok.ensures.grows c.args.valid c.requires.valid.valid) c.determinise_joined.ensures.complete

pub returns-in-Ok-clause-sets : goal.returns-in-Ok-clause-sets
returns-in-Ok-clause-sets c =
    let a : Table = c.args.space.now in
    let b : Table = c.join_small.new.space in
    let t : Table = c.determinise_joined.new.space in
    let Sets : (Bits → Bool) → Relation → Type 0 = λ letters rel. IfOk c.determinise_joined.result (λ det. AreSoMany t rel letters (length det)) in
    let rel = relation-same a b c.in-Ok.ensures.grows c.args.parts.now c.in-Ok.joined c.args.init c.args.acc c.args.keep.now c.args.state.now c.requires.init.valid c.requires.acc.valid c.in-Ok.ensures.same in
    subst (λ letters. Sets letters (relation_of a c.args.parts.now c.args.init c.args.acc c.args.keep.now c.args.state.now)) (letters-same a b c.in-Ok.ensures.grows c.args.valid c.requires.valid.valid)
    (subst (Sets (value_at b c.args.valid)) rel c.determinise_joined.ensures.sets)

pub returns-in-Ok-clause-limit : goal.returns-in-Ok-clause-limit
returns-in-Ok-clause-limit c =
    let a : Table = c.args.space.now in
    let b : Table = c.join_small.new.space in
    let t : Table = c.determinise_joined.new.space in
    let Limit : (Bits → Bool) → Relation → Type 0 = λ letters rel. IfErr c.determinise_joined.result (IsLimit t (AreSoMany t rel letters)) in
    let rel = relation-same a b c.in-Ok.ensures.grows c.args.parts.now c.in-Ok.joined c.args.init c.args.acc c.args.keep.now c.args.state.now c.requires.init.valid c.requires.acc.valid c.in-Ok.ensures.same in
    subst (λ letters. Limit letters (relation_of a c.args.parts.now c.args.init c.args.acc c.args.keep.now c.args.state.now)) (letters-same a b c.in-Ok.ensures.grows c.args.valid c.requires.valid.valid)
    (subst (Limit (value_at b c.args.valid)) rel c.determinise_joined.ensures.limit)

pub returns-in-Err-clause-limit : goal.returns-in-Err-clause-limit
returns-in-Err-clause-limit c =
    let a : Table = c.args.space.now in
    let b : Table = c.join_small.new.space in
    let letters : Bits → Bool = value_at a c.args.valid in
    let rel : Relation = relation_of a c.args.parts.now c.args.init c.args.acc c.args.keep.now c.args.state.now in
    limit-from b c.in-Err.fault 1 c.stopped.result (AreSoMany b rel letters) c.stopped.ensures (λ e. c.in-Err.ensures.full (ap Err e))
    (one-set a b c.in-Err.ensures.grows c.args.parts.now c.args.init c.args.acc c.args.keep.now c.args.state.now letters c.requires.init)
