use Rattle.net_model.specs.NetLanguages.{states_of}
use Rattle.net_model.specs.Outlines.{outline}
use Rattle.net_model.specs.Problems.{file_of}
use Rattle.net_frame.specs.Frames.{spots_in}
use Rattle.net_frame.specs.Placing.{FileSpots}
use Rattle.net_relation.proofs.PlacedNet.{left-laid}
use Rattle.net_relation.proofs.Spelled.{spots-of}
use Rattle.net_relation.proofs.accepting_states.accepting.Goals as goal

pub all_states-requires-clause-spots : goal.all_states-requires-clause-spots
all_states-requires-clause-spots c =
    let spots : FileSpots = spots_in c.args.frame.now c.args.slot in
    (spots-of spots.present (states_of (outline (file_of c.args.file.now))) c.requires.placed.present).0

pub all_states-requires-clause-laid : goal.all_states-requires-clause-laid
all_states-requires-clause-laid c =
    let spots : FileSpots = spots_in c.args.frame.now c.args.slot in
    left-laid c.args.space.now spots.present spots.next c.requires.placed.states_laid
