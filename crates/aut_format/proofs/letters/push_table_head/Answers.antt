use Rattle.aut_format.proofs.Written.{table_written}
use Rattle.aut_format.proofs.letters.push_table_head.Goals as goal

pub returns : goal.returns
returns c =
    table_written c.args.text.now.items _ _ _ _ c.in_ok-extend_from_slice.ensures.items c.in_ok-push_names.ensures c.in_ok-extend_from_slice-2.ensures.items
