use Rattle.blifmv_reader.proofs.Lawful.{stands_faultless, faultless_standing}
use Rattle.blifmv_reader.proofs.laws.texts_without_fault.Goals as goal

pub returns : goal.returns
returns c = λ bytes. (stands_faultless bytes, faultless_standing bytes)
