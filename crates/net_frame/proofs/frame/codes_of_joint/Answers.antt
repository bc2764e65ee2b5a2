use Rattle.std.proofs.Common.{◌≡◌, ◌+◌, ◌∙◌, List, sym, ap, subst, arith}
use Rattle.std.proofs.lemmas.Result.{IfOk-weaker}
use Rattle.name_table.specs.CodeBits.{bits_in}
use Rattle.mv_encoding.specs.Layouts.{Layout}
use Rattle.net_frame.specs.Frames.{shared_by, joint_spots, joint_of}
use Rattle.net_frame.specs.Making.{added_bits, AreJointCodes}
use Rattle.net_problem.specs.ProblemBits.{joint_bits}
use Rattle.net_frame.proofs.Grounds.{grounds, joint-codes}
use Rattle.net_frame.proofs.frame.codes_of_joint.Goals as goal

pub joint_codes-requires-clause-x : goal.joint_codes-requires-clause-x
joint_codes-requires-clause-x c =
    let few = (grounds c.args.problem.now c.mode-mode.ensures.built).x_few in
    let bits = ap bits_in c.requires.x in
    omega (arith, few, bits, c.requires.room)

pub joint_codes-requires-clause-room : goal.joint_codes-requires-clause-room
joint_codes-requires-clause-room c =
    let counted = (grounds c.args.problem.now c.mode-mode.ensures.built).counted in
    let same : added_bits (shared_by c.mode-mode.result c.args.x.now.scope) c.joint.result.now ≡ added_bits (shared_by c.args.problem.now.topology.mode c.args.problem.now.topology.x) c.args.problem.now.topology.joint =
    (λ i. added_bits (shared_by (c.mode-mode.ensures.mode i) (c.requires.x i)) (c.joint.ensures i)) in
    let bits = ap bits_in c.requires.x in
    omega (arith, counted, same, bits, c.bits.ensures.bits, c.first.ensures, c.requires.room)

pub returns-clause-codes : goal.returns-clause-codes
returns-clause-codes c =
    let bits = c.bits.ensures.bits ∙ ap bits_in c.requires.x in
    IfOk-weaker c.joint_codes.result _ (λ made. made.0.items ≡ joint_of c.args.problem.now.topology c.args.x.now.first)
    (λ made is. is ∙ (λ i. joint_spots (shared_by (c.mode-mode.ensures.mode i) (c.requires.x i)) c.args.x.now.first (c.first.ensures i + bits i) (c.joint.ensures i)))
    c.joint_codes.ensures.codes

pub returns-clause-behind : goal.returns-clause-behind
returns-clause-behind c =
    let counted = (grounds c.args.problem.now c.mode-mode.ensures.built).counted in
    let same : added_bits (shared_by c.mode-mode.result c.args.x.now.scope) c.joint.result.now ≡ added_bits (shared_by c.args.problem.now.topology.mode c.args.problem.now.topology.x) c.args.problem.now.topology.joint =
    (λ i. added_bits (shared_by (c.mode-mode.ensures.mode i) (c.requires.x i)) (c.joint.ensures i)) in
    let bits = ap bits_in c.requires.x in
    IfOk-weaker c.joint_codes.result _ (λ made. made.1 ≡ c.args.x.now.first + joint_bits c.args.problem.now.topology)
    (λ made is. omega (arith, is, counted, same, bits, c.bits.ensures.bits, c.first.ensures))
    c.joint_codes.ensures.next

pub returns-clause-good : goal.returns-clause-good
returns-clause-good c =
    let ground = grounds c.args.problem.now c.mode-mode.ensures.built in
    let bits = c.bits.ensures.bits ∙ ap bits_in c.requires.x in
    IfOk-weaker c.joint_codes.result _ (λ made. AreJointCodes made.0.items)
    (λ made is. subst (λ (spots : List Layout). AreJointCodes spots)
    (sym (is ∙ (λ i. joint_spots (shared_by (c.mode-mode.ensures.mode i) (c.requires.x i)) c.args.x.now.first (c.first.ensures i + bits i) (c.joint.ensures i))))
    (joint-codes c.args.problem.now.topology c.args.x.now.first ground c.requires.room))
    c.joint_codes.ensures.codes
