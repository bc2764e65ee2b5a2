use Rattle.std.proofs.Common.{subst}
use Rattle.lex_core.specs.LogicalLines.{logical_lines}
use Rattle.net_model.specs.Faults.{Finds}
use Rattle.net_model.specs.Nets.{net_of}
use Rattle.net_model.specs.NetTexts.{text_in}
use Rattle.blifmv_signals.proofs.Agreeing.{fault_same}
use Rattle.blifmv_signals.proofs.Faultless.{met_by}
use Rattle.blifmv_signals.proofs.third_pass.check_signals.Goals as goal

pub returns-in-Ok-clause-fault : goal.returns-in-Ok-clause-fault
returns-in-Ok-clause-fault c = λ known is_known.
    subst (Finds c.check_lines.result)
    (fault_same (net_of c.args.net.now) (text_in c.args.bytes.now) known c.in-Ok.whole (logical_lines c.args.bytes.now) c.requires.said is_known c.in-Ok.ensures)
    c.check_lines.ensures

pub returns-in-Ok-clause-conditions : goal.returns-in-Ok-clause-conditions
returns-in-Ok-clause-conditions c =
    met_by (net_of c.args.net.now) c.args.bytes.now c.in-Ok.whole c.check_lines.result c.requires.said c.in-Ok.ensures c.requires.latches c.check_lines.ensures
