use Rattle.std.proofs.Common.{◌≡◌, ◌++◌, length, take, drop}
use Rattle.net_model.specs.Forms.{before_arrow, behind_arrow}
use Rattle.blifmv_lines.specs.Said.{texts}
use Rattle.blifmv_lines.proofs.shapes.split_at_arrow.Given as goal

abbrev pub invariant-loop-left : goal.invariant-loop-left
invariant-loop-left l = record {
  behind : behind_arrow (texts l.left) ≡ behind_arrow (texts l.words);
  before : texts (take l.at l.words) ++ before_arrow (texts l.left) ≡ before_arrow (texts l.words);
  rest : l.left ≡ drop l.at l.words;
}

abbrev pub decreases-loop-left : goal.decreases-loop-left
decreases-loop-left l = length l.left
