use Rattle.std.proofs.Common.{◌∙◌, ap}
use Rattle.net_model.specs.NetTexts.{text_in}
use Rattle.blifmv_tables.specs.Drafts.{net_of_draft}
use Rattle.blifmv_tables.proofs.Drafted.{net_drafted}
use Rattle.blifmv_tables.proofs.second_pass.read_tables.Goals as goal

pub returns-clause-net : goal.returns-clause-net
returns-clause-net c =
    c.in_ok-net.ensures.ok
    ∙ (ap (net_of_draft c.args.names) c.in_ok-draft.ensures.draft ∙ net_drafted c.args.names (text_in c.args.bytes.now))
