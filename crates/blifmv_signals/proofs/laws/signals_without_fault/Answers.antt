use Rattle.blifmv_signals.proofs.Backward.{without_fault}
use Rattle.blifmv_signals.proofs.laws.signals_without_fault.Goals as goal

pub returns : goal.returns
returns c = without_fault
