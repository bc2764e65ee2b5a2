use Rattle.std.proofs.Common.{◌≡◌, ◌∙◌, ◌++◌, [], ℕ, Bool, List, map, ap, sym, subst}
use Rattle.std.specs.Prelude.{All}
use Rattle.node_table.specs.Table.{Bits, Table as Nodes}
use Rattle.mv_encoding.specs.Layouts.{Layout}
use Rattle.mv_encoding.specs.Spots.{AreSpots, AreLaid, variables_at}
use Rattle.net_model.specs.Nets.{Net, Table, table_of, latch_of, net_of}
use Rattle.table_parts.specs.TableParts.{IsTableOver, part_value}
use Rattle.net_frame.specs.Frames.{spots_in}
use Rattle.net_frame.specs.Placing.{FileSpots}
use Rattle.net_relation.specs.Relations.{AreFor, ArePresentAt, present_values}
use Rattle.net_relation.specs.States.{constant_tables, initial_meanings}
use Rattle.net_relation.proofs.PlacedNet as placed-net
use Rattle.net_relation.proofs.initial_states.initial_parts.Goals as goal

pub add_constant-requires-clause-signals : goal.add_constant-requires-clause-signals
add_constant-requires-clause-signals c =
    subst AreSpots (sym c.signal_codings-signals.ensures) (placed-net.signals-are c.args.space.now (net_of c.args.net.now) (spots_in c.args.frame.now c.args.slot) c.requires.sound c.requires.placed)

pub add_constant-requires-clause-laid : goal.add_constant-requires-clause-laid
add_constant-requires-clause-laid c =
    let P : List Layout → Type 0 = λ l. AreLaid c.args.space.now l in
    subst P (sym c.signal_codings-signals.ensures) c.requires.placed.signals_laid

pub add_constant-requires-clause-tables : goal.add_constant-requires-clause-tables
add_constant-requires-clause-tables c =
    placed-net.of-two (λ (l : List Layout) (ts : List Table). All (IsTableOver (variables_at l)) ts) c.signal_codings-signals.ensures (ap (map table_of) c.deref.ensures.value)
    (placed-net.tables-over c.args.space.now (net_of c.args.net.now) (spots_in c.args.frame.now c.args.slot) c.requires.sound c.requires.placed)

pub add_tables-requires-clause-signals : goal.add_tables-requires-clause-signals
add_tables-requires-clause-signals c =
    subst AreSpots (sym c.signal_codings-signals.ensures) (placed-net.signals-are c.args.space.now (net_of c.args.net.now) (spots_in c.args.frame.now c.args.slot) c.requires.sound c.requires.placed)

pub add_tables-requires-clause-laid : goal.add_tables-requires-clause-laid
add_tables-requires-clause-laid c =
    let t : Nodes = c.add_constant.new.space in
    let P : List Layout → Type 0 = λ l. AreLaid t l in
    subst P (sym c.signal_codings-signals.ensures) (placed-net.placed-later c.args.space.now t (net_of c.args.net.now) (spots_in c.args.frame.now c.args.slot) c.in_ok-add_constant.ensures.levels c.requires.placed).signals_laid

pub add_tables-requires-clause-tables : goal.add_tables-requires-clause-tables
add_tables-requires-clause-tables c =
    placed-net.of-two (λ (l : List Layout) (ts : List Table). All (IsTableOver (variables_at l)) ts) c.signal_codings-signals.ensures (ap (map table_of) c.deref-2.ensures.value)
    (placed-net.resets-over c.args.space.now (net_of c.args.net.now) (spots_in c.args.frame.now c.args.slot) c.requires.sound c.requires.placed)

pub add_present-requires : goal.add_present-requires
add_present-requires c =
    let t : Nodes = c.add_tables.new.space in
    let net : Net = net_of c.args.net.now in
    let spots : FileSpots = spots_in c.args.frame.now c.args.slot in
    placed-net.of-three (ArePresentAt t) c.signal_codings-signals.ensures (ap (map latch_of) c.deref-3.ensures.value) c.present_codings-present.ensures
    (placed-net.present-at t net spots c.requires.sound (placed-net.placed-later c.args.space.now t net spots (c.in_ok-add_tables.ensures.levels ∙ c.in_ok-add_constant.ensures.levels) c.requires.placed))

pub returns-clause-parts : goal.returns-clause-parts
returns-clause-parts c =
    let net : Net = net_of c.args.net.now in
    let spots : FileSpots = spots_in c.args.frame.now c.args.slot in
    let P : List ℕ → Type 0 = λ refs. AreFor c.args.space.now refs [] in
    let Q : List (Bits → Bool) → Type 0 = λ ms. AreFor c.add_present.new.space c.add_present.new.parts ms in
    let constants = c.in_ok-add_constant.ensures.ok [] (subst P (sym c.new-parts.ensures) tt) in
    let resets = c.in_ok-add_tables.ensures.ok _ constants in
    let made = c.in_ok-add_present.ensures.ok _ resets in
    let same : (map (part_value c.signal_codings-signals.result.now) (constant_tables c.args.varying.now (map table_of c.deref.result.now)) ++ map (part_value c.signal_codings-signals.result.now) (map table_of c.deref-2.result.now)) ++ present_values c.signal_codings-signals.result.now (map latch_of c.deref-3.result.now) c.present_codings-present.result.now ≡ initial_meanings net spots c.args.varying.now
    = λ i. (map (part_value (c.signal_codings-signals.ensures i)) (constant_tables c.args.varying.now (map table_of (c.deref.ensures.value i))) ++ map (part_value (c.signal_codings-signals.ensures i)) (map table_of (c.deref-2.ensures.value i))) ++ present_values (c.signal_codings-signals.ensures i) (map latch_of (c.deref-3.ensures.value i)) (c.present_codings-present.ensures i) in
    subst Q same made
