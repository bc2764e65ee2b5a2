use Rattle.net_model.proofs.OneNet.{one_net}
use Rattle.blifmv_reader.proofs.network.bytes_stand_for_one_net.Goals as goal

pub returns : goal.returns
returns c = one_net
