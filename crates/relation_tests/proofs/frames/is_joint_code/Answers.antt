use Rattle.std.proofs.Common.{◌+◌, arith, ap, length}
use Rattle.name_table.specs.CodeBits.{bits_in}
use Rattle.net_frame.specs.Frames.{shared_x}
use Rattle.net_frame.proofs.JointLevels.{joint-length}
use Rattle.relation_tests.proofs.frames.is_joint_code.Goals as goal

pub joint-code-requires : goal.joint-code-requires
joint-code-requires c =
    let topology = c.args.problem.now.topology in
    let is = ap (λ (frame : _). length frame.joint) c.requires.is in
    let size = joint-length (shared_x topology) c.requires.first (c.requires.first + bits_in topology.x) topology.joint in
    omega (arith, is, size, ap length c.joint.ensures)
