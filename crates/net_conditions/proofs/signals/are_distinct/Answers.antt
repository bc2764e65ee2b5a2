use Rattle.std.proofs.Common.{◌<◌, ℕ, Bool, false, List, [], map, take, replicate, length, get_or, refl, sym, subst, ap, arith}
use Rattle.std.proofs.lemmas.List.{length-replicate, take_all}
use Rattle.name_table.specs.declared.names.VarId.{VarId}
use Rattle.net_conditions.specs.Marks.{Adds}
use Rattle.net_conditions.proofs.Listed.{images_more, image_below, IsOnce}
use Rattle.net_conditions.proofs.Marking.{Adds-none, Adds-more, new_once, again_not_once}
use Rattle.net_conditions.proofs.signals.are_distinct.Goals as goal

pub loop-signal-init : goal.loop-signal-init
loop-signal-init c =
    let P : List Bool → Type 0 = λ set. Adds (replicate c.args.count false) [] set in record {
      met = subst P (sym c.in_ok-met.ensures) (Adds-none (replicate c.args.count false));
      once = λ x. omega arith;
    }

pub insert-requires : goal.insert-requires
insert-requires c =
    let below = image_below (λ v. v.0) c.args.signals.now c.loop-signal.signal-index (record { 0 = 0 }) c.args.count c.requires c.loop-signal-test.true in
    omega (arith, below, c.loop-signal.invariant.met.len, length-replicate c.args.count false)

pub returns-then-not-insert : goal.returns-then-not-insert
returns-then-not-insert c =
    again_not_once (λ v. v.0) c.args.count c.args.signals.now c.loop-signal.signal-index (record { 0 = 0 }) c.loop-signal.met c.insert.result
    c.loop-signal-test.true c.loop-signal.invariant.met c.insert.ensures.is_new c.if-not-insert.true

pub loop-signal-preserved : goal.loop-signal-preserved
loop-signal-preserved c =
    let none : List Bool = replicate c.args.count false in
    let new : List Bool = c.insert.new.self in
    let number : VarId → ℕ = λ v. v.0 in
    let i : ℕ = c.loop-signal.signal-index in
    let first : VarId = record { 0 = 0 } in
    let k : ℕ = number (get_or c.args.signals.now i first) in
    let below : k < length none = let h = image_below number c.args.signals.now i first c.args.count c.requires c.loop-signal-test.true in
    omega (arith, h, length-replicate c.args.count false) in
    let P : List ℕ → Type 0 = λ signals. Adds none signals new in
    let more = sym (images_more number c.args.signals.now i first c.loop-signal-test.true) in record {
      met = subst P more (Adds-more none c.loop-signal.met new (map number (take i c.args.signals.now)) k c.loop-signal.invariant.met below c.insert.ensures.added);
      once = subst IsOnce more
          (new_once c.args.count (map number (take i c.args.signals.now)) k c.loop-signal.met c.insert.result
          c.loop-signal.invariant.met c.loop-signal.invariant.once c.insert.ensures.is_new c.if-not-insert.false);
    }

pub returns : goal.returns
returns c =
    let all = subst IsOnce (ap (map (λ v. v.0)) (take_all c.loop-signal.signal-index c.args.signals.now c.loop-signal-test.false)) c.loop-signal.invariant.once in
    (λ _. all, λ _. refl)
