use Rattle.std.proofs.Common.{arith, ap, length}
use Rattle.net_relation.proofs.OneTable.{none-only}
use Rattle.net_relation.proofs.accepting_states.table_of_signal.Goals as goal

pub unreachable-requires : goal.unreachable-requires
unreachable-requires c =
    let has = c.requires.sound.conditions.acceptance c.args.signal.0 c.requires.acc in
    let long = c.loop-table-test.false in
    let same = ap length c.deref-table-items.ensures.value in
    none-only c.args.net.now.tables.items c.args.signal.0
    (λ k d within. c.loop-table.invariant k d (omega (arith, within, long, same)))
    has.table has.held has.only
