use Rattle.blifmv_names.proofs.Backward.{no_fault_said}
use Rattle.blifmv_names.proofs.Within.{text_faultless}
use Rattle.blifmv_names.proofs.laws.lines_without_fault.Goals as goal

pub returns : goal.returns
returns c = λ bytes. (text_faultless bytes, no_fault_said bytes)
