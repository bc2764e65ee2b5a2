use Rattle.std.proofs.Common.{◌∙◌, ap}
use Rattle.name_table.specs.Variables.{is_in}
use Rattle.blifmv_names.specs.Signals.{names_of}
use Rattle.blifmv_names.proofs.Keyed.{there_shown}
use Rattle.blifmv_names.proofs.signal_table.SignalTable.has.Goals as goal

pub returns : goal.returns
returns c =
    c.contains_key.ensures
    ∙ (there_shown c.self.inside.table.entries (λ n. n.items) c.args.name.now
    ∙ ap (λ signals. is_in (names_of signals) c.args.name.now) c.self.view_is)
