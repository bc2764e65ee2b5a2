use Rattle.std.proofs.Common.{◌≡◌, ◌∙◌, List, length, slice_get, Some, Err, sym, ap, subst, arith}
use Rattle.node_table.specs.Table.{value_at}
use Rattle.node_table.proofs.Growth.{grows-trans}
use Rattle.det_core.specs.Automata.{State, states_of}
use Rattle.det_core.specs.Filling.{seen}
use Rattle.det_core.proofs.Words.{states-length}
use Rattle.subset_build.specs.Relations.{Relation}
use Rattle.subset_build.specs.Subsets.{AreStates, AreSoMany}
use Rattle.subset_build.specs.Preparing.{IsGround}
use Rattle.subset_build.proofs.Exploring.{limit-from, turn-ground, turn-set, turn-sets, turn-index, turn-states, all-made}
use Rattle.subset_build.proofs.determinising.explore.Goals as goal

pub state_of-requires : goal.state_of-requires
state_of-requires c =
    let (rel, ground) = c.requires in
    let a = c.args.space.now in
    let s = c.loop-set.space in
    let states = states_of c.loop-set.states.items in
    let count : c.len.result ≡ length c.loop-set.states.items = omega (arith, c.len.ensures) in
    let at : slice_get c.loop-set.sets (length states) ≡ Some c.in-Some.set = ap (slice_get c.loop-set.sets) (states-length c.loop-set.states.items ∙ sym count) ∙ sym c.at.ensures.at ∙ c.in-Some.is in (
      rel,
      turn-ground a s s rel c.args.parts.now c.args.prepared.now c.args.init c.args.acc c.args.valid c.in-Some.set ground c.loop-set.invariant.grows c.loop-set.invariant.levels c.loop-set.sets states (c.loop-set.invariant.sets_are rel ground) at,
      turn-set a s s rel c.args.parts.now c.args.prepared.now c.args.init c.args.acc c.args.valid c.in-Some.set ground c.loop-set.invariant.grows c.loop-set.invariant.levels c.loop-set.sets states (c.loop-set.invariant.sets_are rel ground) at,
    )

pub loop-set-preserved : goal.loop-set-preserved
loop-set-preserved c =
    let a = c.args.space.now in
    let s = c.loop-set.space in
    let b = c.state_of.new.space in
    let p = c.args.prepared.now in
    let parts = c.args.parts.now in
    let states = states_of c.loop-set.states.items in
    let inv = c.loop-set.invariant in
    let count : c.len.result ≡ length c.loop-set.states.items = omega (arith, c.len.ensures) in
    let at : slice_get c.loop-set.sets (length states) ≡ Some c.in-Some.set = ap (slice_get c.loop-set.sets) (states-length c.loop-set.states.items ∙ sym count) ∙ sym c.at.ensures.at ∙ c.in-Some.is in
    record {
      sets_are = λ rel ground.
          let are = inv.sets_are rel ground in
          turn-sets a s b rel parts p c.args.init c.args.acc c.args.valid c.in-Some.set ground inv.grows inv.levels c.loop-set.sets states are at c.in-Ok.ensures.grows c.state_of.new.sets c.in-Ok.ensures.extends
          (c.in-Ok.ensures.came rel
          (turn-ground a s b rel parts p c.args.init c.args.acc c.args.valid c.in-Some.set ground inv.grows inv.levels c.loop-set.sets states are at)
          (turn-set a s b rel parts p c.args.init c.args.acc c.args.valid c.in-Some.set ground inv.grows inv.levels c.loop-set.sets states are at));
      states_are = λ rel ground.
          let are = inv.sets_are rel ground in
          subst (λ (made : List State). AreStates b rel (value_at a c.args.valid) c.state_of.new.sets made) (sym c.in_ok-put-in-Ok.ensures.ok)
          (turn-states a s b rel parts p c.args.init c.args.acc c.args.valid c.in-Some.set ground inv.grows inv.levels c.loop-set.sets states are at c.in-Ok.ensures.grows c.state_of.new.sets c.in-Ok.ensures.extends (seen c.in-Ok.state) (inv.states_are rel ground)
          (c.in-Ok.ensures.ok rel (length states)
          (turn-ground a s b rel parts p c.args.init c.args.acc c.args.valid c.in-Some.set ground inv.grows inv.levels c.loop-set.sets states are at)
          (turn-set a s b rel parts p c.args.init c.args.acc c.args.valid c.in-Some.set ground inv.grows inv.levels c.loop-set.sets states are at)
          (turn-index a s b rel parts p c.args.init c.args.acc c.args.valid c.in-Some.set ground inv.grows inv.levels c.loop-set.sets states are at c.in-Ok.ensures.grows c.state_of.new.sets c.in-Ok.ensures.extends)));
      grows = grows-trans a s b inv.grows c.in-Ok.ensures.grows;
      levels = c.in-Ok.ensures.levels ∙ inv.levels;
    }

pub returns-in-Err-clause-limit : goal.returns-in-Err-clause-limit
returns-in-Err-clause-limit c =
    let a = c.args.space.now in
    let s = c.loop-set.space in
    let b = c.state_of.new.space in
    let p = c.args.prepared.now in
    let parts = c.args.parts.now in
    let states = states_of c.loop-set.states.items in
    let inv = c.loop-set.invariant in
    let count : c.len.result ≡ length c.loop-set.states.items = omega (arith, c.len.ensures) in
    let at : slice_get c.loop-set.sets (length states) ≡ Some c.in-Some.set = ap (slice_get c.loop-set.sets) (states-length c.loop-set.states.items ∙ sym count) ∙ sym c.at.ensures.at ∙ c.in-Some.is in
    limit-from b c.in-Err.fault c.len-in-Err.result c.stopped.result (λ count. (rel : Relation) → IsGround a parts p c.args.init c.args.acc c.args.valid rel → AreSoMany b rel (value_at a c.args.valid) count) c.stopped.ensures (λ e. c.in-Err.ensures.full (ap Err e))
    (λ rel ground.
    let are = inv.sets_are rel ground in
    record {
      sets = c.state_of.new.sets;
      are_sets =
          turn-sets a s b rel parts p c.args.init c.args.acc c.args.valid c.in-Some.set ground inv.grows inv.levels c.loop-set.sets states are at c.in-Err.ensures.grows c.state_of.new.sets c.in-Err.ensures.extends
          (c.in-Err.ensures.came rel
          (turn-ground a s b rel parts p c.args.init c.args.acc c.args.valid c.in-Some.set ground inv.grows inv.levels c.loop-set.sets states are at)
          (turn-set a s b rel parts p c.args.init c.args.acc c.args.valid c.in-Some.set ground inv.grows inv.levels c.loop-set.sets states are at));
      different = c.len-in-Err.ensures.different;
      number = sym c.len-in-Err.ensures.len;
    })

pub returns-clause-ok : goal.returns-clause-ok
returns-clause-ok c rel ground =
    let states = states_of c.loop-set.states.items in
    let made = c.loop-set.invariant.states_are rel ground in
    let count : c.len.result ≡ length c.loop-set.states.items = omega (arith, c.len.ensures) in
    record {
      sets = c.loop-set.sets;
      are_sets = c.loop-set.invariant.sets_are rel ground;
      different = c.at.ensures.different;
      are_states = made;
      all = all-made c.loop-set.sets (length states) made.made (ap (slice_get c.loop-set.sets) (states-length c.loop-set.states.items ∙ sym count) ∙ sym c.at.ensures.at ∙ c.in_default.is);
    }
