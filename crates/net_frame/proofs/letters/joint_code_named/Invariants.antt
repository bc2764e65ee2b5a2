use Rattle.std.proofs.Common.{◌≡◌, drop}
use Rattle.net_frame.specs.Frames.{spot_named}
use Rattle.net_frame.specs.Making.{has_spot}
use Rattle.net_frame.proofs.letters.joint_code_named.Given as goal

abbrev pub invariant-loop-code : goal.invariant-loop-code
invariant-loop-code l = record {
  there : has_spot (drop l.code-index l.joint) l.name ≡ has_spot l.joint l.name;
  spot : spot_named (drop l.code-index l.joint) l.name ≡ spot_named l.joint l.name;
}
