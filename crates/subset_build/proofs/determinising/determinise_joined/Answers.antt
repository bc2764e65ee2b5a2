use Rattle.std.proofs.Common.{◌≡◌, ◌↔◌, List, true, length, sym, subst}
use Rattle.node_table.specs.Table.{value_at}
use Rattle.det_core.specs.Automata.{State, states_of, has_word, MeetsRule, IsComplete, ReadsAlone}
use Rattle.subset_build.specs.Relations.{relation_of, HasRun}
use Rattle.subset_build.specs.Subsets.{AreSoMany}
use Rattle.subset_build.proofs.Exploring.{explored-det, explored-rule, explored-covers, explored-reads, explored-words}
use Rattle.subset_build.proofs.Grounding.{ground-of}
use Rattle.subset_build.proofs.determinising.determinise_joined.Goals as goal

pub explore-requires : goal.explore-requires
explore-requires c =
    let a = c.args.space.now in
    let parts = c.args.parts.now in
    let p = c.in_ok-prepared.prepared in
    let rel = relation_of a parts c.args.init c.args.acc c.args.keep.now c.args.state.now in
    (rel, ground-of a parts p c.args.init c.args.acc c.args.valid c.args.keep.now c.args.state.now c.requires.order c.requires.parts c.requires.init c.requires.acc c.requires.valid c.in_ok-prepared.ensures)

pub of-requires-2 : goal.of-requires-2
of-requires-2 c =
    let a = c.args.space.now in
    let b = c.explore.new.space in
    let parts = c.args.parts.now in
    let p = c.in_ok-prepared.prepared in
    let rel = relation_of a parts c.args.init c.args.acc c.args.keep.now c.args.state.now in
    let letters = value_at a c.args.valid in
    let is = c.in_ok-states.ensures.ok rel (ground-of a parts p c.args.init c.args.acc c.args.valid c.args.keep.now c.args.state.now c.requires.order c.requires.parts c.requires.init c.requires.acc c.requires.valid c.in_ok-prepared.ensures) in
    explored-det b rel letters (states_of c.in_ok-states.states.items) is

pub returns-clause-words : goal.returns-clause-words
returns-clause-words c =
    let a = c.args.space.now in
    let b = c.explore.new.space in
    let parts = c.args.parts.now in
    let p = c.in_ok-prepared.prepared in
    let rel = relation_of a parts c.args.init c.args.acc c.args.keep.now c.args.state.now in
    let letters = value_at a c.args.valid in
    let is = c.in_ok-states.ensures.ok rel (ground-of a parts p c.args.init c.args.acc c.args.valid c.args.keep.now c.args.state.now c.requires.order c.requires.parts c.requires.init c.requires.acc c.requires.valid c.in_ok-prepared.ensures) in
    λ word fits.
    let words = explored-words b rel letters (states_of c.in_ok-states.states.items) is word fits in
    subst (λ (det : List State). (has_word b det word ≡ true) ↔ HasRun rel word) (sym c.of-2.ensures) words

pub returns-clause-rule : goal.returns-clause-rule
returns-clause-rule c =
    let a = c.args.space.now in
    let b = c.explore.new.space in
    let parts = c.args.parts.now in
    let p = c.in_ok-prepared.prepared in
    let rel = relation_of a parts c.args.init c.args.acc c.args.keep.now c.args.state.now in
    let letters = value_at a c.args.valid in
    let is = c.in_ok-states.ensures.ok rel (ground-of a parts p c.args.init c.args.acc c.args.valid c.args.keep.now c.args.state.now c.requires.order c.requires.parts c.requires.init c.requires.acc c.requires.valid c.in_ok-prepared.ensures) in
    subst (λ (det : List State). MeetsRule b letters det) (sym c.of-2.ensures) (explored-rule b rel letters (states_of c.in_ok-states.states.items) is)

pub returns-clause-complete : goal.returns-clause-complete
returns-clause-complete c =
    let a = c.args.space.now in
    let b = c.explore.new.space in
    let parts = c.args.parts.now in
    let p = c.in_ok-prepared.prepared in
    let rel = relation_of a parts c.args.init c.args.acc c.args.keep.now c.args.state.now in
    let letters = value_at a c.args.valid in
    let is = c.in_ok-states.ensures.ok rel (ground-of a parts p c.args.init c.args.acc c.args.valid c.args.keep.now c.args.state.now c.requires.order c.requires.parts c.requires.init c.requires.acc c.requires.valid c.in_ok-prepared.ensures) in
    subst (λ (det : List State). IsComplete b letters det) (sym c.of-2.ensures) (explored-covers b rel letters (states_of c.in_ok-states.states.items) is)

pub returns-clause-reads : goal.returns-clause-reads
returns-clause-reads c =
    let a = c.args.space.now in
    let b = c.explore.new.space in
    let parts = c.args.parts.now in
    let p = c.in_ok-prepared.prepared in
    let rel = relation_of a parts c.args.init c.args.acc c.args.keep.now c.args.state.now in
    let letters = value_at a c.args.valid in
    let is = c.in_ok-states.ensures.ok rel (ground-of a parts p c.args.init c.args.acc c.args.valid c.args.keep.now c.args.state.now c.requires.order c.requires.parts c.requires.init c.requires.acc c.requires.valid c.in_ok-prepared.ensures) in
    subst (λ (det : List State). ReadsAlone b c.args.keep.now det) (sym c.of-2.ensures) (explored-reads b rel letters (states_of c.in_ok-states.states.items) is)

pub returns-clause-sets : goal.returns-clause-sets
returns-clause-sets c =
    let a = c.args.space.now in
    let b = c.explore.new.space in
    let parts = c.args.parts.now in
    let p = c.in_ok-prepared.prepared in
    let rel = relation_of a parts c.args.init c.args.acc c.args.keep.now c.args.state.now in
    let letters = value_at a c.args.valid in
    let is = c.in_ok-states.ensures.ok rel (ground-of a parts p c.args.init c.args.acc c.args.valid c.args.keep.now c.args.state.now c.requires.order c.requires.parts c.requires.init c.requires.acc c.requires.valid c.in_ok-prepared.ensures) in
    subst (λ (det : List State). AreSoMany b rel letters (length det)) (sym c.of-2.ensures) (record { sets = is.sets; are_sets = is.are_sets; different = is.different; number = sym is.all })
