use Rattle.aut_format.proofs.Written.{states_written}
use Rattle.aut_format.proofs.lines.push_states_line.Goals as goal

pub returns : goal.returns
returns c =
    states_written c.args.text.now.items _ _ _ _ _ _ c.in_ok-extend_from_slice.ensures.items c.in_ok-push_number.ensures c.in_ok-push_states.ensures c.in_ok-push.ensures.items
