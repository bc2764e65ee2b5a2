use Rattle.std.proofs.Common.{◌≡◌, ◌+◌, ◌++◌, drop}
use Rattle.net_frame.specs.Frames.{shared_by, joint_spots}
use Rattle.net_frame.specs.Making.{added_bits}
use Rattle.net_frame.proofs.joint.joint_codes.Given as goal

abbrev pub invariant-loop-var : goal.invariant-loop-var
invariant-loop-var l = record {
  left : l.level + added_bits (shared_by l.mode l.x.scope) (drop l.var l.joint) ≡ l.next + added_bits (shared_by l.mode l.x.scope) l.joint;
  whole : l.codes.items ++ joint_spots (shared_by l.mode l.x.scope) l.x.first l.level (drop l.var l.joint) ≡ joint_spots (shared_by l.mode l.x.scope) l.x.first l.next l.joint;
}
