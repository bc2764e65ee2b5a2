use Rattle.std.proofs.Common.{◌≤◌, ◌∙◌, ◌++◌, ◌∷◌, [], List, length, unwrap_or, sym, ap, subst}
use Rattle.name_table.specs.Variables as variables
use Rattle.name_table.specs.Variables.{Variable, place_of}
use Rattle.net_model.specs.Forms.{Name}
use Rattle.blifmv_names.specs.Signals.{Signal}
use Rattle.blifmv_names.proofs.Placed.{new_at, few_values_at, next_variable}
use Rattle.blifmv_names.proofs.signal_table.SignalTable.add_name.Goals as goal

pub add_new-requires-clause-new : goal.add_new-requires-clause-new
add_new-requires-clause-new c =
    let signal : Signal = record { name = c.signal_at.result.0.now; given = c.signal_at.result.1.now } in
    ap (λ vars. place_of (variables.names_of vars) c.signal_at.result.0.now) c.requires.front
    ∙ new_at c.args.self.now c.args.place signal c.signal_at.ensures.signals c.signal_at.ensures.signal

pub add_new-requires-clause-few : goal.add_new-requires-clause-few
add_new-requires-clause-few c =
    let signal : Signal = record { name = c.signal_at.result.0.now; given = c.signal_at.result.1.now } in
    let is = c.in_ok-domain.ensures ∙ ap (unwrap_or c.signal_at.result.1.now) c.requires.binary in
    subst (λ (domain : List Name). length domain ≤ 65536) (sym is)
    (few_values_at c.args.self.now c.args.place signal c.signal_at.ensures.signals c.signal_at.ensures.signal)

pub returns : goal.returns
returns c =
    let signal : Signal = record { name = c.signal_at.result.0.now; given = c.signal_at.result.1.now } in
    let is = c.in_ok-domain.ensures ∙ ap (unwrap_or c.signal_at.result.1.now) c.requires.binary in
    let next = next_variable c.args.self.now c.args.place signal c.signal_at.ensures.signal in
    c.in_ok-add_new.ensures
    ∙ ((λ i. c.requires.front i ++ record { name = signal.name; values = is i } ∷ []) ∙ sym next)
