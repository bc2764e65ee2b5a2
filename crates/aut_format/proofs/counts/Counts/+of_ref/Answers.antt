use Rattle.std.proofs.Common.{◌∙◌, rules}
use Rattle.aut_format.proofs.Counting.{constant-count, node-count, right-noted}
use Rattle.aut_format.proofs.counts.Counts.+of_ref.Goals as goal

pub returns-in_default-clause-count : goal.returns-in_default-clause-count
returns-in_default-clause-count t c = c.of_constant.ensures ∙ constant-count c.args.space.now c.args.r (search (rules, c.level.ensures.constant))

pub returns-clause-count : goal.returns-clause-count
returns-clause-count t c =
    c.saturating_add-count.ensures
    ∙ node-count c.args.space.now c.args.r c.lo.result c.hi.result c.in_ok-low.low c.in_ok-high.high c.requires.valid c.in-Some.ensures.level.0 c.lo.ensures.node c.hi.ensures.node c.in_ok-low.ensures.count c.in_ok-high.ensures.count

pub returns-clause-right : goal.returns-clause-right
returns-clause-right t c =
    right-noted c.args.space.now c.of_ref-2.new.self c.note.new.self c.args.r c.saturating_add-count.result c.in_ok-high.ensures.right
    (c.saturating_add-count.ensures
    ∙ node-count c.args.space.now c.args.r c.lo.result c.hi.result c.in_ok-low.low c.in_ok-high.high c.requires.valid c.in-Some.ensures.level.0 c.lo.ensures.node c.hi.ensures.node c.in_ok-low.ensures.count c.in_ok-high.ensures.count)
    c.in_ok-note.ensures
