use Rattle.std.proofs.Common.{◌≡◌, ◌+◌, length}
use Rattle.std.specs.Option.{option_map}
use Rattle.blifmv_lines.specs.Places.{count_place}
use Rattle.blifmv_lines.specs.Said.{texts}
use Rattle.blifmv_lines.proofs.shapes.count_place.Given as goal

abbrev pub invariant-loop-left : goal.invariant-loop-left
invariant-loop-left l = record {
  place : option_map (λ n. l.at + n) (count_place (texts l.left)) ≡ count_place (texts l.words);
  within : l.at + length l.left ≡ length l.words;
}

abbrev pub decreases-loop-left : goal.decreases-loop-left
decreases-loop-left l = length l.left
