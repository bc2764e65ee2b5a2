use Rattle.std.proofs.Common.{◌≡◌, ◌∷◌, [], ℕ, Bool, List, ap, sym, subst}
use Rattle.node_table.specs.Table.{Bits, Table as Nodes}
use Rattle.mv_encoding.specs.Layouts.{Layout}
use Rattle.mv_encoding.specs.Spots.{spot_at}
use Rattle.net_model.specs.Machines.{Machine, machine_of}
use Rattle.machine_parts.specs.MachineParts.{machine_value, IsMachineLaid}
use Rattle.net_frame.specs.Frames.{spots_in}
use Rattle.net_frame.specs.Placing.{FileSpots}
use Rattle.net_relation.specs.Relations.{AreFor}
use Rattle.net_relation.proofs.Added.{added-so}
use Rattle.net_relation.proofs.MachineSpots.{machine-laid, machine-related, some-present, some-next}
use Rattle.net_relation.proofs.PlacedNet.{spot-is, of-three}
use Rattle.net_relation.proofs.machines.parts_of_machine.Goals as goal

pub machine_part-steps-requires-clause-placed : goal.machine_part-steps-requires-clause-placed
machine_part-steps-requires-clause-placed c =
    let t : Nodes = c.args.space.now in
    let machine : Machine = machine_of c.args.machine.now in
    let spots : FileSpots = spots_in c.args.frame.now c.args.slot in
    let present = spot-is c.present_codings.result.now spots.present c.present_codings.ensures 0 c.index-present_codings-0.result (some-present t machine spots c.requires.sound c.requires.placed) c.index-present_codings-0.is in
    let next = spot-is c.next_codings.result.now spots.next c.next_codings.ensures 0 c.index-next_codings-0.result (some-next t machine spots c.requires.sound c.requires.placed) c.index-next_codings-0.is in
    of-three (λ (columns : List Layout) (p n : Layout). IsMachineLaid t columns p n machine) c.letter_codings-columns.ensures present next (machine-laid t machine spots c.requires.sound c.requires.placed)

pub returns-clause-parts : goal.returns-clause-parts
returns-clause-parts c =
    let t : Nodes = c.args.space.now in
    let machine : Machine = machine_of c.args.machine.now in
    let spots : FileSpots = spots_in c.args.frame.now c.args.slot in
    let present = spot-is c.present_codings.result.now spots.present c.present_codings.ensures 0 c.index-present_codings-0.result (some-present t machine spots c.requires.sound c.requires.placed) c.index-present_codings-0.is in
    let next = spot-is c.next_codings.result.now spots.next c.next_codings.ensures 0 c.index-next_codings-0.result (some-next t machine spots c.requires.sound c.requires.placed) c.index-next_codings-0.is in
    let P : List ℕ → Type 0 = λ refs. AreFor t refs [] in
    let Q : List (Bits → Bool) → Type 0 = λ ms. AreFor c.machine_part-steps.new.space c.add.new.parts ms in
    let made = added-so t c.machine_part-steps.new.space c.machine_part-steps.result (machine_value c.letter_codings-columns.result.now c.index-present_codings-0.result c.index-next_codings-0.result machine) c.new-parts.result c.add.new.parts
    c.machine_part-steps.ensures.grows c.machine_part-steps.ensures.ok c.in_ok-add.ensures.ok [] (subst P (sym c.new-parts.ensures) tt) in
    let same : machine_value c.letter_codings-columns.result.now c.index-present_codings-0.result c.index-next_codings-0.result machine ∷ [] ≡ machine_value spots.letters (spot_at spots.present 0) (spot_at spots.next 0) machine ∷ []
    = λ i. machine_value (c.letter_codings-columns.ensures i) (present i) (next i) machine ∷ [] in
    subst Q same made

pub returns-clause-steps : goal.returns-clause-steps
returns-clause-steps c =
    machine-related c.args.space.now (machine_of c.args.machine.now) (spots_in c.args.frame.now c.args.slot) c.requires.sound c.requires.placed c.machine_part-steps.new.space c.add.new.parts (returns-clause-parts c)
