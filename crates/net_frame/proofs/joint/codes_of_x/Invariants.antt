use Rattle.std.proofs.Common.{◌≡◌, ◌+◌, map}
use Rattle.std.specs.List.{range_with_len}
use Rattle.mv_encoding.specs.Layouts.{bits_before}
use Rattle.mv_encoding.specs.Sets.{layout_of}
use Rattle.net_frame.proofs.joint.codes_of_x.Given as goal

abbrev pub invariant-loop-var : goal.invariant-loop-var
invariant-loop-var l = record {
  level : l.level ≡ l.x.first + bits_before l.x.scope l.var;
  made : l.codes.items ≡ map (layout_of l.x) (range_with_len 0 l.var);
}
