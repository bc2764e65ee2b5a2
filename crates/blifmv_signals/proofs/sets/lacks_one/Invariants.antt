use Rattle.std.proofs.Common.{◌≡◌, not, length}
use Rattle.std.specs.List.{list_any}
use Rattle.net_model.specs.NetTexts.{places_in}
use Rattle.blifmv_lines.specs.Said.{texts}
use Rattle.net_conditions.specs.Marks.{is_marked}
use Rattle.blifmv_signals.proofs.sets.lacks_one.Given as goal

abbrev pub invariant-loop-left : goal.invariant-loop-left
invariant-loop-left l =
    list_any (λ signal. not (is_marked l.set signal)) (places_in l.names (texts l.left))
    ≡ list_any (λ signal. not (is_marked l.set signal)) (places_in l.names (texts l.words))

abbrev pub decreases-loop-left : goal.decreases-loop-left
decreases-loop-left l = length l.left
