use Rattle.std.proofs.Common.{◌&&◌, ◌++◌, ◌∙◌, arith}
use Rattle.std.proofs.lemmas.List.Elements.{All-same, All-take, All-drop}
use Rattle.net_model.specs.Machines.{bits_allow}
use Rattle.node_table.specs.Table.{value_at}
use Rattle.mv_encoding.specs.Layouts.{Layout, IsLaid}
use Rattle.mv_encoding.specs.Spots.{spelled}
use Rattle.table_parts.proofs.Spelled.{laid-later, stands-same}
use Rattle.machine_parts.proofs.Patterns.{bits-both}
use Rattle.machine_parts.proofs.rows.letter_part.Goals as goal

pub bits_part-requires-clause-laid : goal.bits_part-requires-clause-laid
bits_part-requires-clause-laid c =
    let P = λ (s : Layout). IsLaid s c.args.space.now in
    All-same P c.split_at.result.1.now _ c.split_at.ensures.back (All-drop P _ c.args.columns.now c.requires.laid)

pub bits_part-requires-2-clause-laid : goal.bits_part-requires-2-clause-laid
bits_part-requires-2-clause-laid c =
    let P = λ (s : Layout). IsLaid s c.args.space.now in
    laid-later c.args.space.now c.bits_part.new.space c.split_at.result.0.now c.in_ok-output.ensures.levels
    (All-same P c.split_at.result.0.now _ c.split_at.ensures.front (All-take P _ c.args.columns.now c.requires.laid))

pub returns-clause-ok : goal.returns-clause-ok
returns-clause-ok c =
    let columns = c.args.columns.now in
    let row = c.args.row.now in
    let front = c.split_at.result.0.now in
    let back = c.split_at.result.1.now in
    let input = c.in_ok-input in
    let output = c.in_ok-output in
    let new = c.bits_part-2.new.space in
    stands-same c.and.result c.and.new.space (λ bits. value_at new input.input bits && value_at new output.output bits) (λ bits. bits_allow (row.input.items ++ row.output.items) (spelled columns bits))
    (λ bits.
    let first = input.ensures.ok.value bits ∙ (λ i. bits_allow (c.deref-2.ensures.value i) (spelled front bits)) in
    let second =
    input.ensures.grows.value output.output output.ensures.ok.valid.held bits
    ∙ output.ensures.ok.value bits
    ∙ (λ i. bits_allow (c.deref.ensures.value i) (spelled back bits)) in
    (λ i. first i && second i)
    ∙ bits-both columns front back row.input.items row.output.items bits c.split_at.ensures.by_index.0 (omega (arith, c.split_at.ensures.front_len, c.len.ensures)))
    c.and.ensures.ok
