use Rattle.std.proofs.Common.{◌≡◌}
use Rattle.net_model.specs.Spellings.{spells}
use Rattle.blifmv_lines.specs.Said.{texts}
use Rattle.blifmv_lines.proofs.row.spells.Given as goal

abbrev pub invariant-loop-missing : goal.invariant-loop-missing
invariant-loop-missing l = spells l.missing l.entries ≡ spells l.width (texts l.words)

abbrev pub decreases-loop-missing : goal.decreases-loop-missing
decreases-loop-missing l = l.missing
