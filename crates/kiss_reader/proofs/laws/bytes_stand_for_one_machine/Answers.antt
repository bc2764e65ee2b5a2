use Rattle.net_model.proofs.OneNet.{one_machine}
use Rattle.kiss_reader.proofs.laws.bytes_stand_for_one_machine.Goals as goal

pub returns : goal.returns
returns c = one_machine
