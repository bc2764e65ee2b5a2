use Rattle.std.proofs.Common.{◌≡◌, ◌<◌, ◌-◌, ◌^◌, length}
use Rattle.std.specs.Prelude.{min}
use Rattle.net_model.specs.Forms.{number_from, number_of}
use Rattle.blifmv_lines.proofs.number.number_of.Given as goal

abbrev pub invariant-loop-left : goal.invariant-loop-left
invariant-loop-left l = record {
  number : min (number_from l.number l.left) (2 ^ 64 - 1) ≡ min (number_of l.word) (2 ^ 64 - 1);
  fits : l.number < 2 ^ 64;
}

abbrev pub decreases-loop-left : goal.decreases-loop-left
decreases-loop-left l = length l.left
