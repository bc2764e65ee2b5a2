use Rattle.std.proofs.Common.{◌≡◌, ◌∙◌, ◌==◌, ◌<◌, ◌∷◌, [], length, ap, sym, subst, arith}
use Rattle.name_table.specs.ScopeVars.{variable_at}
use Rattle.node_table.specs.Table.{Table as Nodes}
use Rattle.bdd_ops.specs.Meaning.{StandsFor}
use Rattle.mv_encoding.specs.Layouts.{Layout, IsLaid, number_of}
use Rattle.mv_encoding.specs.Spots.{spot_at}
use Rattle.net_model.specs.Machines.{Machine, machine_of}
use Rattle.net_frame.specs.Frames.{spots_in}
use Rattle.net_frame.specs.Placing.{FileSpots}
use Rattle.net_relation.proofs.MachineSpots.{machine-starts, present-one, size, some-present}
use Rattle.net_relation.proofs.PlacedNet.{left-laid, spot-is}
use Rattle.net_relation.proofs.Spelled.{nowhere}
use Rattle.net_relation.proofs.machines.initial_of_machine.Goals as goal

pub cube-requires-clause-value : goal.cube-requires-clause-value
cube-requires-clause-value c =
    let t : Nodes = c.args.space.now in
    let machine : Machine = machine_of c.args.machine.now in
    let spots : FileSpots = spots_in c.args.frame.now c.args.slot in
    let at = spot-is c.present_codings.result.now spots.present c.present_codings.ensures 0 c.index-present_codings-0.result (some-present t machine spots c.requires.sound c.requires.placed) c.index-present_codings-0.is in
    let long = ap (λ (s : Layout). length (variable_at s.scope 0).values) at ∙ size t machine spots c.requires.sound c.requires.placed (spot_at spots.present 0) (present-one t machine spots c.requires.sound c.requires.placed).1 in
    let low = c.requires.sound.reset in
    omega (arith, low, long)

pub cube-requires-clause-levels : goal.cube-requires-clause-levels
cube-requires-clause-levels c =
    let t : Nodes = c.args.space.now in
    let machine : Machine = machine_of c.args.machine.now in
    let spots : FileSpots = spots_in c.args.frame.now c.args.slot in
    let some = some-present t machine spots c.requires.sound c.requires.placed in
    let at = spot-is c.present_codings.result.now spots.present c.present_codings.ensures 0 c.index-present_codings-0.result some c.index-present_codings-0.is in
    let P : Layout → Type 0 = λ s. IsLaid s t in
    subst P (sym at) (left-laid t spots.present spots.next c.requires.placed.states_laid 0 nowhere some)

pub returns-in-Ok-clause-states : goal.returns-in-Ok-clause-states
returns-in-Ok-clause-states c =
    let t : Nodes = c.args.space.now in
    let machine : Machine = machine_of c.args.machine.now in
    let spots : FileSpots = spots_in c.args.frame.now c.args.slot in
    let some = some-present t machine spots c.requires.sound c.requires.placed in
    let at = spot-is c.present_codings.result.now spots.present c.present_codings.ensures 0 c.index-present_codings-0.result some c.index-present_codings-0.is in
    let P : Layout → Type 0 = λ s. StandsFor c.cube.new.space c.in-Ok.r (λ bits. number_of s 0 bits == machine.reset) in
    machine-starts t machine spots c.requires.sound c.requires.placed c.cube.new.space c.in-Ok.r (subst P at c.in-Ok.ensures.ok)
