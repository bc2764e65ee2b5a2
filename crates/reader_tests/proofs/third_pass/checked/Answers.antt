use Rattle.std.proofs.Common.{◌∙◌, ap, sym}
use Rattle.net_model.specs.Nets.{Net}
use Rattle.net_model.specs.NetTexts.{net_with, text_in}
use Rattle.reader_tests.proofs.third_pass.checked.Goals as goal

pub check_known-requires : goal.check_known-requires
check_known-requires c = record {
  said = c.in_ok-net.ensures.net
      ∙ ap (λ v. net_with v (text_in c.args.bytes.now)) (sym (ap (λ (n : Net). n.names) c.in_ok-net.ensures.net));
}
