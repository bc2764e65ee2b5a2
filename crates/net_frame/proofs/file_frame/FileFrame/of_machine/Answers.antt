use Rattle.std.proofs.Common.{sym, subst}
use Rattle.net_model.specs.Machines.{machine_of}
use Rattle.net_model.specs.Outlines.{IsWired}
use Rattle.net_model.proofs.Outlined.{outline-wired}
use Rattle.net_frame.proofs.file_frame.FileFrame.of_machine.Goals as goal

pub of_net-requires-clause-sound : goal.of_net-requires-clause-sound
of_net-requires-clause-sound c = subst IsWired (sym c.in_ok-outline.ensures) (outline-wired (machine_of c.args.machine.now) c.requires.sound)
