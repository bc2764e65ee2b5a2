use Rattle.std.proofs.Common.{subst}
use Rattle.blifmv_names.specs.Signals.{AreSignals}
use Rattle.blifmv_names.proofs.Faultless.{text_says, no_line_fault, names_said}
use Rattle.blifmv_names.proofs.first_pass.read_names.Goals as goal

pub returns-in-Ok-clause-lines : goal.returns-in-Ok-clause-lines
returns-in-Ok-clause-lines c =
    text_says c.args.bytes.now (no_line_fault c.args.bytes.now c.in_default.ensures.none c.in_ok-signals.ensures.fault)

pub returns-in-Ok-clause-names : goal.returns-in-Ok-clause-names
returns-in-Ok-clause-names c =
    names_said c.args.bytes.now c.in_ok-signals.signals c.in-Ok.names (subst AreSignals c.signals.view_is c.signals.invariant) c.in_ok-signals.ensures.signals c.in-Ok.ensures
