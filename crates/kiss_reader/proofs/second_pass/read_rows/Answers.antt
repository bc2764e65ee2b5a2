use Rattle.std.proofs.Common.{Ok, ◌∙◌, ap, sym}
use Rattle.blifmv_lines.specs.Said.{texts}
use Rattle.kiss_reader.specs.Said.{form_said}
use Rattle.kiss_reader.specs.SecondPass.{rows_fault}
use Rattle.kiss_reader.proofs.Agreeing.{row_found}
use Rattle.kiss_reader.proofs.second_pass.read_rows.Goals as goal

pub returns-in-Err-clause-fault : goal.returns-in-Err-clause-fault
returns-in-Err-clause-fault c =
    row_found c.take_row.result (Ok c.loop-line.rows) c.in-Err.fault c.args.repeats c.args.states.now c.loop-line.last _ _ c.in-Some.line c.next_line.new.self
    (texts c.as_slice.result.now) (form_said c.in-Some-form_of.form) (ap texts c.as_slice.ensures.value ∙ c.in_ok-fill.ensures)
    c.in-Some-form_of.ensures c.number-last.ensures
    (ap (rows_fault c.args.repeats c.args.states.now c.loop-line.last) (sym c.in-Some.ensures.line) ∙ c.loop-line.invariant.fault)
    c.in-Err.ensures.fault
