use Rattle.std.proofs.Common.{rules, ◌||◌, ◌∙◌, map}
use Rattle.std.specs.List.{list_any}
use Rattle.std.proofs.lemmas.List.Elements.{All-same, All-drop}
use Rattle.net_model.specs.declared.machine.KissRow as declared_row
use Rattle.net_model.specs.Machines.{kiss_row_of, row_leads}
use Rattle.node_table.specs.Table.{Bits, value_at}
use Rattle.mv_encoding.specs.Layouts.{number_of}
use Rattle.mv_encoding.specs.Spots.{spelled}
use Rattle.table_parts.proofs.Spelled.{stands-same}
use Rattle.table_parts.proofs.Known.{any-halves}
use Rattle.machine_parts.specs.Coded.{IsRowOver}
use Rattle.machine_parts.proofs.Levels.{coded-later}
use Rattle.machine_parts.proofs.rows.+rows_part.Goals as goal

pub rows_part-requires-in_default : goal.rows_part-requires-in_default
rows_part-requires-in_default t c =
    let P = λ (row : declared_row.KissRow). IsRowOver c.args.columns.now c.args.present.now c.args.next.now (kiss_row_of row) in
    let coded = coded-later c.args.space.now c.rows_part.new.space c.args.columns.now c.args.present.now c.args.next.now c.in_ok-first-in_default.ensures.levels c.requires.coded in
    let rows = All-same P c.split_at.result.1.now _ c.split_at.ensures.back (All-drop P _ c.args.rows.now c.requires.rows) in
    (search rules, (coded, rows))

pub returns-in_ok-second-in_default-clause-ok : goal.returns-in_ok-second-in_default-clause-ok
returns-in_ok-second-in_default-clause-ok t c =
    let first = c.in_ok-first-in_default in
    let second = c.in_ok-second-in_default in
    let new = c.rows_part-in_default.new.space in
    let leads = λ (bits : Bits). row_leads (number_of c.args.present.now 0 bits) (spelled c.args.columns.now bits) (number_of c.args.next.now 0 bits) in
    stands-same c.or.result c.or.new.space (λ bits. value_at new first.first bits || value_at new second.second bits) (λ bits. list_any (leads bits) (map kiss_row_of c.args.rows.now))
    (λ bits. (λ i. (second.ensures.grows.value first.first first.ensures.ok.valid.held bits ∙ first.ensures.ok.value bits) i || second.ensures.ok.value bits i)
    ∙ any-halves (leads bits) kiss_row_of c.args.rows.now c.split_at.result.0.now c.split_at.result.1.now c.split_at.ensures.by_index.0)
    c.or.ensures.ok
