use Rattle.std.proofs.Common.{◌∙◌, ◌<◌, ℕ, Bool, List, length, map, get_or, refl, sym, subst, arith}
use Rattle.std.proofs.lemmas.List.{append-nil, length-map}
use Rattle.node_table.specs.Table.{Bits}
use Rattle.node_table.proofs.Growth.{grows-refl, grows-trans}
use Rattle.net_model.specs.Nets.{Latch, latch_of}
use Rattle.net_model.specs.declared.net.Latch as declared
use Rattle.net_relation.specs.Relations.{AreFor}
use Rattle.net_relation.proofs.LatchList.{read-at, all-at, agree-at, latch-read, one-present}
use Rattle.net_relation.proofs.Spelled.{nowhere}
use Rattle.net_relation.proofs.latches.add_present.Goals as goal

abbrev none : declared.Latch
none = record { input = record { 0 = 0 }; output = record { 0 = 0 } }

pub loop-place-init : goal.loop-place-init
loop-place-init c =
    let P : List (Bits → Bool) → Type 0 = λ ms. AreFor c.args.space.now c.args.parts.now ms in
    record {
      are = λ before are. subst P (sym (append-nil before)) are;
      grows = grows-refl c.args.space.now c.levels-levels.ensures.table;
      levels = refl;
    }

pub add_present_of-requires-clause-output : goal.add_present_of-requires-clause-output
add_present_of-requires-clause-output c =
    all-at (λ l. l.output < length c.args.signals.now) c.args.latches.now c.requires.known c.loop-place.place none (omega (arith, c.loop-place-test.true))

pub add_present_of-requires-clause-present : goal.add_present_of-requires-clause-present
add_present_of-requires-clause-present c =
    agree-at c.args.space.now c.loop-place.space c.args.signals.now c.args.present.now c.args.latches.now (λ l. l.output) c.requires.agree c.requires.len c.loop-place.invariant.levels c.loop-place.place none c.index-present-place.result (omega (arith, c.loop-place-test.true)) c.index-present-place.is

pub loop-place-preserved : goal.loop-place-preserved
loop-place-preserved c =
    let k : ℕ = c.loop-place.place in
    let ls : List Latch = map latch_of c.args.latches.now in
    let l : Latch = latch_of (get_or c.args.latches.now k none) in
    let long = length-map c.args.latches.now latch_of in
    let within : k < length c.args.latches.now = omega (arith, c.loop-place-test.true) in
    let P : List (Bits → Bool) → Type 0 = λ ms. AreFor c.add_present_of.new.space c.add_present_of.new.parts ms in
    record {
      are = λ before are.
          subst P (one-present c.args.signals.now ls c.args.present.now k l c.index-present-place.result before (omega (arith, within, long)) c.requires.len
          (latch-read c.args.latches.now k none l within)
          (read-at c.args.present.now k c.index-present-place.result nowhere (omega (arith, within, long, c.requires.len)) c.index-present-place.is))
          (c.in_ok-add_present_of.ensures.ok _ (c.loop-place.invariant.are before are));
      grows = grows-trans _ _ _ c.loop-place.invariant.grows c.in_ok-add_present_of.ensures.grows;
      levels = c.in_ok-add_present_of.ensures.levels ∙ c.loop-place.invariant.levels;
    }
