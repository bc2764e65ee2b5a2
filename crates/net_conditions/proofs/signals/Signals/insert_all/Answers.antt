use Rattle.std.proofs.Common.{◌<◌, ℕ, List, Bool, map, take, length, get_or, refl, sym, subst, arith}
use Rattle.name_table.specs.declared.names.VarId.{VarId}
use Rattle.net_conditions.specs.Marks.{Adds, GrowsIf}
use Rattle.net_conditions.proofs.Listed.{images_more, image_below}
use Rattle.net_conditions.proofs.Marking.{Adds-none, Adds-more, grows_by, grows_not}
use Rattle.net_conditions.proofs.signals.Signals.insert_all.Goals as goal
use Rattle.net_conditions.proofs.signals.Signals.insert_all.Goals.{then-insert, else-insert}

pub loop-signal-init : goal.loop-signal-init
loop-signal-init c = record { added = Adds-none c.args.self.now; grown = refl }

pub insert-requires : goal.insert-requires
insert-requires c =
    let below = image_below (λ v. v.0) c.args.signals.now c.loop-signal.signal-index (record { 0 = 0 }) (length c.args.self.now) c.requires c.loop-signal-test.true in
    omega (arith, below, c.loop-signal.invariant.added.len)

pub loop-signal-preserved : goal.loop-signal-preserved
loop-signal-preserved c =
    let old : List Bool = c.args.self.now in
    let mid : List Bool = c.loop-signal.self in
    let new : List Bool = c.insert.new.self in
    let number : VarId → ℕ = λ v. v.0 in
    let i : ℕ = c.loop-signal.signal-index in
    let first : VarId = record { 0 = 0 } in
    let k : ℕ = number (get_or c.args.signals.now i first) in
    let below : k < length old = image_below number c.args.signals.now i first (length old) c.requires c.loop-signal-test.true in
    let within : k < length mid = omega (arith, c.loop-signal.invariant.added.len) in
    let P : List ℕ → Type 0 = λ signals. Adds old signals new in
    let Q : Bool → Type 0 = λ grown. GrowsIf grown old new in record {
      added = subst P (sym (images_more number c.args.signals.now i first c.loop-signal-test.true))
          (Adds-more old mid new (map number (take i c.args.signals.now)) k c.loop-signal.invariant.added below c.insert.ensures.added);
      grown = elim c.if-insert.branch [
        | then-insert w ↦ subst Q (sym w.grown-is)
            (grows_by c.loop-signal.grown old mid new k c.insert.result c.loop-signal.invariant.grown within c.insert.ensures.added c.insert.ensures.is_new w.if-insert.true)
        | else-insert w ↦ subst Q (sym w.grown-is)
            (grows_not c.loop-signal.grown old mid new k c.insert.result c.loop-signal.invariant.grown c.insert.ensures.added c.insert.ensures.is_new w.if-insert.false)
      ];
    }
