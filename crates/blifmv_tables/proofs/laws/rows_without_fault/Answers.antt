use Rattle.blifmv_tables.proofs.Faultless.{rows_faultless}
use Rattle.blifmv_tables.proofs.laws.rows_without_fault.Goals as goal

pub returns : goal.returns
returns c = rows_faultless
