use Rattle.net_conditions.specs.Accepted.{IsAcceptance}
use Rattle.net_conditions.proofs.Listed.{None-more, Decides-found, Decides-missed}
use Rattle.net_conditions.proofs.acceptance.is_computed.Goals as goal

pub returns-then-is_acceptance : goal.returns-then-is_acceptance
returns-then-is_acceptance c =
    Decides-found (IsAcceptance c.args.states.now c.args.signal.0) c.args.tables.now c.loop-table.table-index c.table-item.result c.is_acceptance.result
    c.loop-table-test.true c.table-item.is c.is_acceptance.ensures c.if-is_acceptance.true

pub loop-table-preserved : goal.loop-table-preserved
loop-table-preserved c =
    None-more (IsAcceptance c.args.states.now c.args.signal.0) c.args.tables.now c.loop-table.table-index c.table-item.result c.is_acceptance.result
    c.loop-table-test.true c.table-item.is c.is_acceptance.ensures c.if-is_acceptance.false c.loop-table.invariant

pub returns : goal.returns
returns c =
    Decides-missed (IsAcceptance c.args.states.now c.args.signal.0) c.args.tables.now c.loop-table.table-index c.loop-table-test.false c.loop-table.invariant
