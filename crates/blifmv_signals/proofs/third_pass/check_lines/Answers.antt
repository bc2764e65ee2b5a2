use Rattle.std.proofs.Common.{subst, sym, ◌∙◌, ap}
use Rattle.net_model.specs.Forms.{shape_of}
use Rattle.blifmv_lines.specs.Said.{texts}
use Rattle.blifmv_signals.specs.Marked.{HasMarks}
use Rattle.blifmv_signals.proofs.Agreeing.{fault_below}
use Rattle.blifmv_signals.proofs.Marking.{marks_by}
use Rattle.blifmv_signals.proofs.third_pass.check_lines.Goals as goal

pub loop-line-preserved : goal.loop-line-preserved
loop-line-preserved c =
    let none = c.in_default-take_line.is in
    let behind = c.take_line.ensures.above none in
    let said = ap texts c.as_slice.ensures.value ∙ c.in_ok-fill.ensures.ok in record {
      marks = subst (HasMarks c.args.names.now) (sym behind) (marks_by c.args.names.now c.loop-line.above (shape_of (texts c.as_slice.result.now)) c.loop-line.invariant.marks);
      fault =
          fault_below c.args.names.now c.args.whole.now c.loop-line.above c.take_line.new.above c.in-Some.line c.loop-line.lines c.next_line.new.self (texts c.as_slice.result.now)
          c.in-Some.ensures.line said (sym none ∙ c.take_line.ensures.kind) behind
          ∙ c.loop-line.invariant.fault;
    }
