use Rattle.std.proofs.Common.{◌≡◌, length}
use Rattle.blifmv_lines.specs.Said.{texts, listed_names}
use Rattle.blifmv_names.specs.Signals.{given_to_all}
use Rattle.blifmv_names.proofs.giving.give_all.Given as goal

abbrev pub invariant-loop-name : goal.invariant-loop-name
invariant-loop-name l = given_to_all l.domain l.signals l.left ≡ given_to_all l.domain l.fn.signals (listed_names (texts l.names))

abbrev pub decreases-loop-name : goal.decreases-loop-name
decreases-loop-name l = length l.left
