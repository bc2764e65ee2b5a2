use Rattle.std.proofs.Common.{◌&&◌, ◌∙◌, not, map, ap}
use Rattle.std.specs.List.{list_any}
use Rattle.net_model.specs.Nets.{entry_of, row_of}
use Rattle.net_model.specs.Tables.{entries_allow, row_matches}
use Rattle.node_table.specs.Table.{value_at}
use Rattle.table_parts.specs.Columns.{numbers_in}
use Rattle.table_parts.proofs.Spelled.{laid-later, stands-same}
use Rattle.table_parts.proofs.Known.{ins-known, outs-known, rows-known}
use Rattle.table_parts.proofs.part.default_part.Goals as goal

pub rows_matching-requires-clause-ins : goal.rows_matching-requires-clause-ins
rows_matching-requires-clause-ins c = ins-known c.args.signals.now c.args.table.now c.requires.table c.deref.result.now c.deref.ensures.value

pub rows_matching-requires-clause-rows : goal.rows_matching-requires-clause-rows
rows_matching-requires-clause-rows c =
    rows-known c.args.signals.now c.args.table.now c.requires.table c.deref.result.now c.deref-2.result.now c.deref-3.result.now c.deref.ensures.value c.deref-2.ensures.value c.deref-3.ensures.value

pub entries_part-requires-clause-laid : goal.entries_part-requires-clause-laid
entries_part-requires-clause-laid c =
    laid-later c.args.space.now c.not.new.space c.args.signals.now (c.in_ok-unmatched.ensures.levels ∙ c.in_ok-matched.ensures.levels) c.requires.laid

pub entries_part-requires-clause-ins : goal.entries_part-requires-clause-ins
entries_part-requires-clause-ins c = ins-known c.args.signals.now c.args.table.now c.requires.table c.deref-4.result.now c.deref-4.ensures.value

pub entries_part-requires-clause-columns : goal.entries_part-requires-clause-columns
entries_part-requires-clause-columns c = outs-known c.args.signals.now c.args.table.now c.requires.table c.deref-5.result.now c.deref-5.ensures.value

pub returns-clause-ok : goal.returns-clause-ok
returns-clause-ok c =
    let signals = c.args.signals.now in
    let table = c.args.table.now in
    let matched = c.in_ok-matched in
    let unmatched = c.in_ok-unmatched in
    let allowed = c.in_ok-allowed in
    let new = c.entries_part.new.space in
    stands-same c.and.result c.and.new.space (λ bits. value_at new unmatched.unmatched bits && value_at new allowed.allowed bits)
    (λ bits. not (list_any (row_matches (numbers_in signals table.ins.items bits)) (map row_of table.rows.items)) && entries_allow (numbers_in signals table.ins.items bits) (map entry_of c.args.entries.now) (numbers_in signals table.outs.items bits))
    (λ bits.
    let first =
    allowed.ensures.grows.value unmatched.unmatched unmatched.ensures.ok.valid.held bits
    ∙ unmatched.ensures.ok.value bits
    ∙ ap not (matched.ensures.ok.value bits)
    ∙ (λ i. not (list_any (row_matches (numbers_in signals (c.deref.ensures.value i) bits)) (map row_of (c.deref-3.ensures.value i)))) in
    let second =
    allowed.ensures.ok.value bits
    ∙ (λ i. entries_allow (numbers_in signals (c.deref-4.ensures.value i) bits) (map entry_of c.args.entries.now) (numbers_in signals (c.deref-5.ensures.value i) bits)) in
    λ i. first i && second i)
    c.and.ensures.ok
