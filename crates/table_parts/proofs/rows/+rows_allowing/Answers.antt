use Rattle.std.proofs.Common.{rules, ◌||◌, ◌∙◌, map}
use Rattle.std.specs.List.{list_any}
use Rattle.std.proofs.lemmas.List.Elements.{All-same, All-drop}
use Rattle.net_model.specs.declared.net.Row as declared_row
use Rattle.net_model.specs.Nets.{row_of}
use Rattle.net_model.specs.SoundNets.{IsRowOf}
use Rattle.net_model.specs.Tables.{row_allows}
use Rattle.node_table.specs.Table.{Bits, value_at}
use Rattle.table_parts.specs.Columns.{sizes_at, numbers_in}
use Rattle.table_parts.proofs.Spelled.{laid-later, stands-same}
use Rattle.table_parts.proofs.Known.{any-halves}
use Rattle.table_parts.proofs.Kept.{right-then}
use Rattle.table_parts.proofs.rows.+rows_allowing.Goals as goal

pub rows_allowing-requires-in_default : goal.rows_allowing-requires-in_default
rows_allowing-requires-in_default t c =
    let P = λ (row : declared_row.Row). IsRowOf (sizes_at c.args.signals.now c.args.ins.now) (sizes_at c.args.signals.now c.args.outs.now) (row_of row) in
    let laid = laid-later c.args.space.now c.rows_allowing.new.space c.args.signals.now c.in_ok-first-in_default.ensures.levels c.requires.laid in
    let rows = All-same P c.split_at.result.1.now _ c.split_at.ensures.back (All-drop P _ c.args.rows.now c.requires.rows) in
    (search rules, (c.requires.signals, (laid, (c.requires.ins, (c.requires.outs, (rows, c.in_ok-first-in_default.ensures.right))))))

pub returns-in_ok-second-in_default-clause-right : goal.returns-in_ok-second-in_default-clause-right
returns-in_ok-second-in_default-clause-right t c =
    right-then c.or.result c.args.signals.now c.rows_allowing-in_default.new.space c.or.new.space c.rows_allowing-in_default.new.equalities c.or.ensures.grows c.in_ok-second-in_default.ensures.right

pub returns-in_ok-second-in_default-clause-ok : goal.returns-in_ok-second-in_default-clause-ok
returns-in_ok-second-in_default-clause-ok t c =
    let signals = c.args.signals.now in
    let ins = c.args.ins.now in
    let first = c.in_ok-first-in_default in
    let second = c.in_ok-second-in_default in
    let new = c.rows_allowing-in_default.new.space in
    let allows = λ (bits : Bits). row_allows (numbers_in signals ins bits) (numbers_in signals c.args.outs.now bits) in
    stands-same c.or.result c.or.new.space (λ bits. value_at new first.first bits || value_at new second.second bits) (λ bits. list_any (allows bits) (map row_of c.args.rows.now))
    (λ bits. (λ i. (second.ensures.grows.value first.first first.ensures.ok.valid.held bits ∙ first.ensures.ok.value bits) i || second.ensures.ok.value bits i)
    ∙ any-halves (allows bits) row_of c.args.rows.now c.split_at.result.0.now c.split_at.result.1.now c.split_at.ensures.by_index.0)
    c.or.ensures.ok
