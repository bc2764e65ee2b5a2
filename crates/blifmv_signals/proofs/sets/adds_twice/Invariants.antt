use Rattle.std.proofs.Common.{◌≡◌, ◌<◌, length}
use Rattle.net_model.specs.NetTexts.{places_in}
use Rattle.blifmv_lines.specs.Said.{texts}
use Rattle.blifmv_signals.specs.Marked.{all_marked, marks_twice}
use Rattle.blifmv_signals.proofs.sets.adds_twice.Given as goal

abbrev pub invariant-loop-left : goal.invariant-loop-left
invariant-loop-left l = record {
  marks : length l.names < length l.set;
  twice : marks_twice l.set (places_in l.names (texts l.left)) ≡ marks_twice l.fn.set (places_in l.names (texts l.words));
  added : all_marked l.set (places_in l.names (texts l.left)) ≡ all_marked l.fn.set (places_in l.names (texts l.words));
}

abbrev pub decreases-loop-left : goal.decreases-loop-left
decreases-loop-left l = length l.left
