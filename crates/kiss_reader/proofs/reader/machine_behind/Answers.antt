use Rattle.std.proofs.Common.{Err, ◌∙◌, ap, sym}
use Rattle.lex_core.specs.LogicalLines.{logical_lines}
use Rattle.net_model.specs.declared.machine.Machine as declared_machine
use Rattle.kiss_reader.specs.Read.{repeats_in}
use Rattle.kiss_reader.specs.SecondPass.{rows_fault}
use Rattle.kiss_reader.proofs.Agreeing.{finds_same}
use Rattle.kiss_reader.proofs.Reading.{same_repeats, come_different}
use Rattle.kiss_reader.proofs.reader.machine_behind.Goals as goal

pub machine_with-requires-clause-different : goal.machine_with-requires-clause-different
machine_with-requires-clause-different c =
    come_different c.in_ok-inputs.inputs.items c.in_ok-outputs.outputs.items c.as_slice.result.now c.as_slice-2.result.now
    c.in_ok-different.different c.args.read.now.states (logical_lines c.args.bytes.now) c.as_slice.ensures.value c.as_slice-2.ensures.value
    c.in_ok-different.ensures c.requires.read.states c.in-Ok.ensures.fault

pub returns-in-Ok-clause-fault : goal.returns-in-Ok-clause-fault
returns-in-Ok-clause-fault c =
    let same = same_repeats c.args.read.now c.in_ok-inputs.inputs.items c.in_ok-outputs.outputs.items c.as_slice.result.now c.as_slice-2.result.now
    c.width_or_none.result c.width_or_none-2.result c.in_ok-different.different c.width_or_none.ensures c.width_or_none-2.ensures
    c.in_ok-inputs.ensures c.in_ok-outputs.ensures c.as_slice.ensures.value c.as_slice-2.ensures.value c.in_ok-different.ensures in
    ap (λ again. rows_fault again c.args.read.now.states 0 (logical_lines c.args.bytes.now)) (sym same) ∙ c.in-Ok.ensures.fault

pub returns-in-Err-clause-fault : goal.returns-in-Err-clause-fault
returns-in-Err-clause-fault c =
    let same = same_repeats c.args.read.now c.in_ok-inputs.inputs.items c.in_ok-outputs.outputs.items c.as_slice.result.now c.as_slice-2.result.now
    c.width_or_none.result c.width_or_none-2.result c.in_ok-different.different c.width_or_none.ensures c.width_or_none-2.ensures
    c.in_ok-inputs.ensures c.in_ok-outputs.ensures c.as_slice.ensures.value c.as_slice-2.ensures.value c.in_ok-different.ensures in
    finds_same {U = declared_machine.Machine} c.read_rows.result (Err c.in-Err.fault) c.in-Err.fault
    (rows_fault _ c.args.read.now.states 0 (logical_lines c.args.bytes.now))
    (rows_fault (repeats_in c.args.read.now) c.args.read.now.states 0 (logical_lines c.args.bytes.now)) c.in-Err.ensures.fault
    (λ n kind is. ap (λ again. rows_fault again c.args.read.now.states 0 (logical_lines c.args.bytes.now)) (sym same) ∙ is)
