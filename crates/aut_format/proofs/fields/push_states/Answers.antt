use Rattle.aut_format.proofs.Written.{states_more}
use Rattle.std.proofs.Common.{◌++◌, ap, ◌∙◌}
use Rattle.net_model.specs.Printed.{state_name}
use Rattle.aut_format.proofs.fields.push_states.Goals as goal

pub loop-state-preserved : goal.loop-state-preserved
loop-state-preserved c =
    states_more c.args.text.now.items _ _ c.loop-state.state c.loop-state.invariant (c.in_ok-push_state.ensures ∙ ap (λ t. t ++ state_name c.loop-state.state) c.in_ok-push.ensures.items)
