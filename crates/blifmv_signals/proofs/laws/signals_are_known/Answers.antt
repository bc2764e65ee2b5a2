use Rattle.blifmv_signals.proofs.Knowing.{right_known, one_fault}
use Rattle.blifmv_signals.proofs.laws.signals_are_known.Goals as goal

pub returns-clause-known : goal.returns-clause-known
returns-clause-known c = right_known

pub returns-clause-same : goal.returns-clause-same
returns-clause-same c = one_fault
