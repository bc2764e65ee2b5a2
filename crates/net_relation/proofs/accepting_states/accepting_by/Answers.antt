use Rattle.std.proofs.Common.{◌∙◌, Bool, List}
use Rattle.std.proofs.lemmas.Result.{IfOk-weaker}
use Rattle.node_table.specs.Table.{Bits, Table as Nodes}
use Rattle.part_relation.specs.Plans.{all_hold}
use Rattle.mv_encoding.specs.Spots.{StandsForValues}
use Rattle.net_model.specs.Nets.{Net, net_of, table_of}
use Rattle.net_model.specs.NetLanguages.{IsAccepting}
use Rattle.net_frame.specs.Frames.{spots_in}
use Rattle.net_frame.specs.Placing.{FileSpots}
use Rattle.net_relation.specs.Projections.{Projects}
use Rattle.net_relation.specs.States.{accepting_meanings}
use Rattle.net_relation.proofs.Added.{are-valid}
use Rattle.net_relation.proofs.PlacedNet.{present-laid}
use Rattle.net_relation.proofs.StateSets.{parts-states, kept-within, accepting-found, accepting-holds}
use Rattle.net_relation.proofs.accepting_states.accepting_by.Goals as goal

pub project-requires-clause-parts : goal.project-requires-clause-parts
project-requires-clause-parts c = are-valid c.accepting_parts.new.space c.in_ok-parts.parts _ c.in_ok-parts.ensures.parts

pub project-requires-clause-keep : goal.project-requires-clause-keep
project-requires-clause-keep c =
    let spots : FileSpots = spots_in c.args.frame.now c.args.slot in
    kept-within c.args.space.now spots.present (present-laid c.args.space.now (net_of c.args.net.now) spots c.requires.sound c.requires.placed) c.present.result.now c.present.ensures c.accepting_parts.new.space.levels c.in_ok-parts.ensures.levels

pub returns-clause-states : goal.returns-clause-states
returns-clause-states c =
    let t : Nodes = c.args.space.now in
    let made : Nodes = c.accepting_parts.new.space in
    let new : Nodes = c.project.new.space in
    let net : Net = net_of c.args.net.now in
    let spots : FileSpots = spots_in c.args.frame.now c.args.slot in
    let ms : List (Bits → Bool) = accepting_meanings net spots (table_of c.table_of_signal-table.result.now) c.args.signal.0 in
    IfOk-weaker c.project.result (λ r. Projects new r c.present.result.now (all_hold made c.in_ok-parts.parts)) (λ r. StandsForValues new spots.present r (IsAccepting net))
    (λ r left. parts-states t made new net spots c.requires.sound c.requires.placed (c.project.ensures.levels ∙ c.in_ok-parts.ensures.levels) c.present.result.now c.present.ensures r c.in_ok-parts.parts ms c.in_ok-parts.ensures.parts (IsAccepting net)
    (accepting-found t net spots c.requires.sound c.requires.placed c.args.signal.0 c.requires.acc (table_of c.table_of_signal-table.result.now) c.table_of_signal-table.ensures.held c.table_of_signal-table.ensures.only)
    (accepting-holds t net spots c.requires.sound c.requires.placed c.args.signal.0 c.requires.acc (table_of c.table_of_signal-table.result.now) c.table_of_signal-table.ensures.held c.table_of_signal-table.ensures.only) left)
    c.project.ensures.ok
