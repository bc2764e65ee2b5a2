use Rattle.std.proofs.Common.{List, sym, subst}
use Rattle.node_table.specs.Table.{Table as Nodes}
use Rattle.bdd_ops.specs.Meaning.{StandsFor}
use Rattle.mv_encoding.specs.Layouts.{Layout}
use Rattle.mv_encoding.specs.Spots.{AreLaid, spell_values}
use Rattle.net_model.specs.Nets.{net_of}
use Rattle.net_frame.specs.Frames.{spots_in}
use Rattle.net_frame.specs.Placing.{FileSpots}
use Rattle.net_model.specs.NetLanguages.{states_of}
use Rattle.net_relation.proofs.PlacedNet.{left-laid}
use Rattle.net_relation.proofs.Spelled.{spots-of}
use Rattle.net_relation.proofs.StateSets.{all-values-set}
use Rattle.net_relation.proofs.accepting_states.all_states.Goals as goal

pub all_values-requires : goal.all_values-requires
all_values-requires c =
    let spots : FileSpots = spots_in c.args.frame.now c.args.slot in
    let P : List Layout → Type 0 = λ l. AreLaid c.args.space.now l in
    subst P (sym c.present_codings.ensures) c.requires.laid

pub returns-in-Ok-clause-states : goal.returns-in-Ok-clause-states
returns-in-Ok-clause-states c =
    let new : Nodes = c.all_values.new.space in
    let spots : FileSpots = spots_in c.args.frame.now c.args.slot in
    let P : List Layout → Type 0 = λ l. StandsFor new c.in-Ok.r (spell_values l) in
    all-values-set new spots.present c.requires.spots c.in-Ok.r (subst P c.present_codings.ensures c.in-Ok.ensures.ok)
