use Rattle.std.proofs.Common.{◌∙◌, sym, ap}
use Rattle.std.specs.Option.{option_flatten}
use Rattle.blifmv_names.specs.Signals.{given_in}
use Rattle.blifmv_names.proofs.Keyed.{given_shown}
use Rattle.blifmv_names.proofs.signal_table.SignalTable.given.Goals as goal

pub returns-in-Some-Some : goal.returns-in-Some-Some
returns-in-Some-Some c =
    sym c.in-Some-Some.field-0-is
    ∙ (ap option_flatten c.in-Some-Some.ensures.value
    ∙ (given_shown c.self.inside.table.entries (λ n. n.items) c.args.name.now
    ∙ ap (λ signals. given_in signals c.args.name.now) c.self.view_is))

pub returns-in-Some-None : goal.returns-in-Some-None
returns-in-Some-None c =
    sym c.in-Some-None.field-0-is
    ∙ (ap option_flatten c.in-Some-None.ensures.value
    ∙ (given_shown c.self.inside.table.entries (λ n. n.items) c.args.name.now
    ∙ ap (λ signals. given_in signals c.args.name.now) c.self.view_is))

pub returns-in-None : goal.returns-in-None
returns-in-None c =
    ap option_flatten c.in-None.ensures.value
    ∙ (given_shown c.self.inside.table.entries (λ n. n.items) c.args.name.now
    ∙ ap (λ signals. given_in signals c.args.name.now) c.self.view_is)
