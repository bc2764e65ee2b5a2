use Rattle.std.proofs.Common.{◌≡◌, ◌≤◌, ◌*◌, length, take}
use Rattle.mv_encoding.specs.Spots.{all_levels}
use Rattle.net_frame.proofs.codes.set_of_levels.Given as goal

abbrev pub invariant-loop-code : goal.invariant-loop-code
invariant-loop-code l = record {
  gathered : l.levels.items ≡ all_levels (take l.code-index l.codes);
  few : length l.levels.items ≤ 2000 * l.code-index;
}
