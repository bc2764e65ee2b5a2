use Rattle.std.proofs.Common.{◌∙◌, ap}
use Rattle.net_model.specs.NetTexts.{text_in, net_with}
use Rattle.bench_texts.proofs.texts.read_network.Goals as goal

pub returns : goal.returns
returns c = c.in_ok-net.ensures.net ∙ ap (λ names. net_with names (text_in c.args.text.now)) c.in_ok-names.ensures.names
