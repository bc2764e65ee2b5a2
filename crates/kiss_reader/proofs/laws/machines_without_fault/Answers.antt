use Rattle.kiss_reader.proofs.Lawful.{without_fault}
use Rattle.kiss_reader.proofs.laws.machines_without_fault.Goals as goal

pub returns : goal.returns
returns c = without_fault
