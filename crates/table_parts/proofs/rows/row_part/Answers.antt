use Rattle.std.proofs.Common.{◌&&◌, ◌∙◌, map}
use Rattle.net_model.specs.Nets.{entry_of, row_of}
use Rattle.net_model.specs.Tables.{entries_allow, row_allows}
use Rattle.node_table.specs.Table.{value_at}
use Rattle.table_parts.specs.Columns.{numbers_in}
use Rattle.table_parts.proofs.Spelled.{laid-later, stands-same}
use Rattle.table_parts.proofs.Kept.{right-then}
use Rattle.table_parts.proofs.rows.row_part.Goals as goal

pub row_match-requires-clause-laid : goal.row_match-requires-clause-laid
row_match-requires-clause-laid c = laid-later c.args.space.now c.entries_part.new.space c.args.signals.now c.in_ok-allowed.ensures.levels c.requires.laid

pub returns-clause-right : goal.returns-clause-right
returns-clause-right c = right-then c.and.result c.args.signals.now c.row_match.new.space c.and.new.space c.row_match.new.equalities c.and.ensures.grows c.in_ok-matched.ensures.right

pub returns-clause-ok : goal.returns-clause-ok
returns-clause-ok c =
    let signals = c.args.signals.now in
    let ins = c.args.ins.now in
    let outs = c.args.outs.now in
    let allowed = c.in_ok-allowed in
    let matched = c.in_ok-matched in
    let new = c.row_match.new.space in
    stands-same c.and.result c.and.new.space (λ bits. value_at new matched.matched bits && value_at new allowed.allowed bits) (λ bits. row_allows (numbers_in signals ins bits) (numbers_in signals outs bits) (row_of c.args.row.now))
    (λ bits.
    let second =
    matched.ensures.grows.value allowed.allowed allowed.ensures.ok.valid.held bits
    ∙ allowed.ensures.ok.value bits
    ∙ (λ i. entries_allow (numbers_in signals ins bits) (map entry_of (c.deref.ensures.value i)) (numbers_in signals outs bits)) in
    λ i. matched.ensures.ok.value bits i && second i)
    c.and.ensures.ok
