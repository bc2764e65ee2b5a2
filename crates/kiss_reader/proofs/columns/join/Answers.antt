use Rattle.std.proofs.lemmas.List.{take_rest}
use Rattle.kiss_reader.proofs.Columned.{joined_more, joined_none}
use Rattle.kiss_reader.proofs.columns.join.Goals as goal

pub returns-then-not-branch : goal.returns-then-not-branch
returns-then-not-branch c =
    joined_none c.loop-left.names c.add_new.new.names _ c.loop-left.left.now c.as_slice.result.now c.column-item.result c.in_ok-add_new.field-0
    c.if-not-branch.true c.in_ok-add_new.ensures c.in-len1-up.len_at_least c.column-item.is c.as_slice.ensures.value c.loop-left.invariant.whole

pub loop-left-preserved : goal.loop-left-preserved
loop-left-preserved c =
    let more = joined_more c.loop-left.names c.add_new.new.names _ c.loop-left.left.now _ c.as_slice.result.now c.column-item.result c.in_ok-add_new.field-0
    c.if-not-branch.false c.in_ok-add_new.ensures c.in-len1-up.len_at_least c.column-item.is c.as_slice.ensures.value
    (take_rest c.loop-left.left.now 1) c.loop-left.invariant.whole in
    record { whole = more.0; different = more.1 }
