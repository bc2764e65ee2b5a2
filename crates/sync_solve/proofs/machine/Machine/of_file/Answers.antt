use Rattle.std.proofs.Common.{◌∙◌}
use Rattle.net_model.specs.Problems.{file_of}
use Rattle.net_frame.specs.Frames.{spots_in}
use Rattle.node_table.proofs.Growth.{grows-trans}
use Rattle.net_relation.specs.Relations.{file_meanings, IsInitialOf}
use Rattle.net_relation.proofs.Added.{are-grow}
use Rattle.sync_solve.proofs.Files.{file-placed-later, file-steps-grow, values-grow}
use Rattle.sync_solve.proofs.machine.Machine.of_file.Goals as goal

pub initial-requires-clause-placed : goal.initial-requires-clause-placed
initial-requires-clause-placed c =
    file-placed-later c.args.space.now c.relation_of.new.space c.relation_of.ensures.levels (file_of c.args.file.now) (spots_in c.args.frame.now c.args.slot) c.requires.placed

pub accepting-requires-clause-placed : goal.accepting-requires-clause-placed
accepting-requires-clause-placed c =
    file-placed-later c.args.space.now c.initial.new.space (c.initial.ensures.levels ∙ c.relation_of.ensures.levels) (file_of c.args.file.now) (spots_in c.args.frame.now c.args.slot) c.requires.placed

pub returns-clause-ok : goal.returns-clause-ok
returns-clause-ok c =
    let file = file_of c.args.file.now in
    let spots = spots_in c.args.frame.now c.args.slot in
    let grow = grows-trans c.relation_of.new.space c.initial.new.space c.accepting.new.space c.initial.ensures.grows c.accepting.ensures.grows in
    let levels = c.accepting.ensures.levels ∙ c.initial.ensures.levels ∙ c.relation_of.ensures.levels in
    record {
      sound = c.requires.sound;
      placed = file-placed-later c.args.space.now c.accepting.new.space levels file spots c.requires.placed;
      steps = file-steps-grow c.relation_of.new.space c.accepting.new.space grow c.in_ok-parts.parts spots file c.in_ok-parts.ensures.steps;
      meanings = are-grow c.relation_of.new.space c.accepting.new.space grow c.in_ok-parts.parts (file_meanings file spots) c.in_ok-parts.ensures.parts;
      initial = values-grow c.initial.new.space c.accepting.new.space c.accepting.ensures.grows spots.present c.in_ok-init.init (IsInitialOf file) c.in_ok-init.ensures.states;
      accepting = c.in_ok-acc.ensures.states;
    }
