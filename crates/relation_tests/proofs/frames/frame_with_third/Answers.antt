use Rattle.std.proofs.Common.{sym, subst}
use Rattle.net_model.specs.Problems.{File, file_letters, IsSoundFile}
use Rattle.net_frame.specs.Frames.{AreJoint}
use Rattle.net_frame.proofs.Grounds.{files-joint}
use Rattle.relation_tests.proofs.frames.frame_with_third.Goals as goal

pub of-requires-clause-third : goal.of-requires-clause-third
of-requires-clause-third c = record {
  sound = subst IsSoundFile (sym c.f.ensures) c.mode-mode.ensures.built.f_sound;
  joint = λ is. subst (λ (file : File). AreJoint c.args.problem.now.topology.joint (file_letters file)) (sym c.f.ensures) (files-joint c.args.problem.now c.mode-mode.ensures.built is).0;
}
