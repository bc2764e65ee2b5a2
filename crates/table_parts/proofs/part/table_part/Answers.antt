use Rattle.std.proofs.Common.{◌&&◌, ◌∙◌}
use Rattle.net_model.specs.Nets.{table_of}
use Rattle.node_table.specs.Table.{value_at}
use Rattle.node_table.proofs.Growth.{grows-trans}
use Rattle.mv_encoding.specs.Spots.{spots_at, spell_values}
use Rattle.table_parts.specs.Columns.{signals_of}
use Rattle.table_parts.specs.TableParts.{part_value}
use Rattle.table_parts.proofs.Spelled.{laid-later, stands-same}
use Rattle.table_parts.proofs.Known.{ins-known, outs-known, values-halves}
use Rattle.table_parts.proofs.part.table_part.Goals as goal

pub column_values-requires-clause-laid : goal.column_values-requires-clause-laid
column_values-requires-clause-laid c = laid-later c.args.space.now c.held_part.new.space c.args.signals.now c.in_ok-held.ensures.levels c.requires.laid

pub column_values-requires-clause-columns : goal.column_values-requires-clause-columns
column_values-requires-clause-columns c = outs-known c.args.signals.now c.args.table.now c.requires.table c.deref.result.now c.deref.ensures.value

pub column_values-requires-2-clause-laid : goal.column_values-requires-2-clause-laid
column_values-requires-2-clause-laid c =
    laid-later c.args.space.now c.column_values.new.space c.args.signals.now (c.in_ok-outs.ensures.levels ∙ c.in_ok-held.ensures.levels) c.requires.laid

pub column_values-requires-2-clause-columns : goal.column_values-requires-2-clause-columns
column_values-requires-2-clause-columns c = ins-known c.args.signals.now c.args.table.now c.requires.table c.deref-2.result.now c.deref-2.ensures.value

pub returns-clause-ok : goal.returns-clause-ok
returns-clause-ok c =
    let signals = c.args.signals.now in
    let table = c.args.table.now in
    let held = c.in_ok-held in
    let outs = c.in_ok-outs in
    let ins = c.in_ok-ins in
    let values = c.in_ok-values in
    let new = c.and.new.space in
    let grow =
    grows-trans c.held_part.new.space c.column_values.new.space new outs.ensures.grows
    (grows-trans c.column_values.new.space c.column_values-2.new.space new ins.ensures.grows values.ensures.grows) in
    stands-same c.and-2.result c.and-2.new.space (λ bits. value_at new values.values bits && value_at new held.held bits) (part_value signals (table_of table))
    (λ bits.
    let first = ins.ensures.ok.value bits ∙ (λ i. spell_values (spots_at signals (signals_of (c.deref-2.ensures.value i))) bits) in
    let second =
    ins.ensures.grows.value outs.outs outs.ensures.ok.valid.held bits
    ∙ outs.ensures.ok.value bits
    ∙ (λ i. spell_values (spots_at signals (signals_of (c.deref.ensures.value i))) bits) in
    let all = values.ensures.ok.value bits ∙ (λ i. first i && second i) ∙ values-halves signals (signals_of table.ins.items) (signals_of table.outs.items) bits in
    let holds = grow.value held.held held.ensures.ok.valid.held bits ∙ held.ensures.ok.value bits in
    λ i. all i && holds i)
    c.and-2.ensures.ok
