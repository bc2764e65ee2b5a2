use Rattle.kiss_reader.proofs.Columned.{with_column}
use Rattle.kiss_reader.proofs.columns.numbered_columns.Goals as goal

pub loop-number-preserved : goal.loop-number-preserved
loop-number-preserved c =
    with_column c.loop-number.columns.items c.push.new.self.items c.in_ok-column.field-0 _ c.args.front c.loop-number.number
    c.in_ok-push.ensures.items c.loop-number.invariant c.in_ok-numbered_name.ensures c.in_ok-column.ensures
