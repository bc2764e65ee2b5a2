use Rattle.std.proofs.Common.{ap, map, true, false}
use Rattle.std.specs.Option.{option_map}
use Rattle.net_model.specs.Nets.{entry_of}
use Rattle.blifmv_lines.specs.Said.{texts}
use Rattle.blifmv_tables.proofs.Read.{row_found}
use Rattle.blifmv_tables.proofs.rows.read_row.Goals as goal

pub returns-then-not-is_empty : goal.returns-then-not-is_empty
returns-then-not-is_empty c =
    row_found c.args.names.now (map (λ v. v.0) c.args.ins.now) (map (λ v. v.0) c.args.outs.now) (texts c.args.words.now) c.new-entries.result c.read_entries.new.entries c.read_entries-2.new.entries
    (option_map (λ read. map entry_of read.items) c.in_ok-inputs.field-0) (option_map (λ read. map entry_of read.items) c.in_ok-outputs.field-0) (map entry_of c.in-Some.inputs.items) (map entry_of c.in-Some-2.outputs.items)
    false c.new-entries.ensures c.in_ok-inputs.ensures (ap (option_map (λ read. map entry_of read.items)) c.in-Some.is) c.in_ok-outputs.ensures (ap (option_map (λ read. map entry_of read.items)) c.in-Some-2.is) c.if-not-is_empty.ensures

pub returns : goal.returns
returns c =
    row_found c.args.names.now (map (λ v. v.0) c.args.ins.now) (map (λ v. v.0) c.args.outs.now) (texts c.args.words.now) c.new-entries.result c.read_entries.new.entries c.read_entries-2.new.entries
    (option_map (λ read. map entry_of read.items) c.in_ok-inputs.field-0) (option_map (λ read. map entry_of read.items) c.in_ok-outputs.field-0) (map entry_of c.in-Some.inputs.items) (map entry_of c.in-Some-2.outputs.items)
    true c.new-entries.ensures c.in_ok-inputs.ensures (ap (option_map (λ read. map entry_of read.items)) c.in-Some.is) c.in_ok-outputs.ensures (ap (option_map (λ read. map entry_of read.items)) c.in-Some-2.is) c.if-not-is_empty.ensures
