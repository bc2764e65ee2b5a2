use Rattle.std.proofs.Common.{◌≡◌, ◌∙◌, ◌++◌, ◌∷◌, [], ℕ, Bool, List, map, ap, sym, subst}
use Rattle.node_table.specs.Table.{Bits, Table as Nodes}
use Rattle.mv_encoding.specs.Layouts.{Layout}
use Rattle.mv_encoding.specs.Spots.{AreSpots, AreLaid, variables_at, spell_values}
use Rattle.net_model.specs.Nets.{Net, Table, table_of, latch_of, net_of}
use Rattle.table_parts.specs.TableParts.{IsTableOver, part_value}
use Rattle.net_frame.specs.Frames.{spots_in}
use Rattle.net_frame.specs.Placing.{FileSpots}
use Rattle.std.specs.Prelude.{All}
use Rattle.net_relation.specs.Relations.{AreFor, AreLatchesAt, latch_values, part_meanings}
use Rattle.net_relation.proofs.Added.{added-so}
use Rattle.net_relation.proofs.Related.{related}
use Rattle.net_relation.proofs.PlacedNet as placed-net
use Rattle.net_relation.proofs.relation.parts_of_net.Goals as goal

pub add_tables-requires-clause-signals : goal.add_tables-requires-clause-signals
add_tables-requires-clause-signals c =
    subst AreSpots (sym c.signal_codings-signals.ensures) (placed-net.signals-are c.args.space.now (net_of c.args.net.now) (spots_in c.args.frame.now c.args.slot) c.requires.sound c.requires.placed)

pub add_tables-requires-clause-laid : goal.add_tables-requires-clause-laid
add_tables-requires-clause-laid c =
    let P : List Layout → Type 0 = λ l. AreLaid c.args.space.now l in
    subst P (sym c.signal_codings-signals.ensures) c.requires.placed.signals_laid

pub add_tables-requires-clause-tables : goal.add_tables-requires-clause-tables
add_tables-requires-clause-tables c =
    placed-net.of-two (λ (l : List Layout) (ts : List Table). All (IsTableOver (variables_at l)) ts) c.signal_codings-signals.ensures (ap (map table_of) c.deref.ensures.value)
    (placed-net.tables-over c.args.space.now (net_of c.args.net.now) (spots_in c.args.frame.now c.args.slot) c.requires.sound c.requires.placed)

pub add_latches-requires : goal.add_latches-requires
add_latches-requires c =
    let t : Nodes = c.add_tables.new.space in
    let net : Net = net_of c.args.net.now in
    let spots : FileSpots = spots_in c.args.frame.now c.args.slot in
    placed-net.of-four (AreLatchesAt t) c.signal_codings-signals.ensures (ap (map latch_of) c.deref-2.ensures.value) c.present_codings-present.ensures c.next_codings-next.ensures
    (placed-net.latches-at t net spots c.requires.sound (placed-net.placed-later c.args.space.now t net spots c.in_ok-add_tables.ensures.levels c.requires.placed))

pub all_values-letters-requires : goal.all_values-letters-requires
all_values-letters-requires c =
    let t : Nodes = c.add_latches.new.space in
    let net : Net = net_of c.args.net.now in
    let spots : FileSpots = spots_in c.args.frame.now c.args.slot in
    let P : List Layout → Type 0 = λ l. AreLaid t l in
    subst P (sym c.letter_codings.ensures) (placed-net.letters-laid t net spots c.requires.sound (placed-net.placed-later c.args.space.now t net spots (c.in_ok-add_latches.ensures.levels ∙ c.in_ok-add_tables.ensures.levels) c.requires.placed))

pub returns-clause-parts : goal.returns-clause-parts
returns-clause-parts c =
    let net : Net = net_of c.args.net.now in
    let spots : FileSpots = spots_in c.args.frame.now c.args.slot in
    let P : List ℕ → Type 0 = λ refs. AreFor c.args.space.now refs [] in
    let Q : List (Bits → Bool) → Type 0 = λ ms. AreFor c.all_values-letters.new.space c.add.new.parts ms in
    let tables = c.in_ok-add_tables.ensures.ok [] (subst P (sym c.new-parts.ensures) tt) in
    let latches = c.in_ok-add_latches.ensures.ok _ tables in
    let made = added-so c.add_latches.new.space c.all_values-letters.new.space c.all_values-letters.result (spell_values c.letter_codings.result.now) c.add_latches.new.parts c.add.new.parts
    c.all_values-letters.ensures.grows c.all_values-letters.ensures.ok c.in_ok-add.ensures.ok _ latches in
    let same : (map (part_value c.signal_codings-signals.result.now) (map table_of c.deref.result.now) ++ latch_values c.signal_codings-signals.result.now (map latch_of c.deref-2.result.now) c.present_codings-present.result.now c.next_codings-next.result.now) ++ spell_values c.letter_codings.result.now ∷ [] ≡ part_meanings net spots
    = λ i. (map (part_value (c.signal_codings-signals.ensures i)) (map table_of (c.deref.ensures.value i)) ++ latch_values (c.signal_codings-signals.ensures i) (map latch_of (c.deref-2.ensures.value i)) (c.present_codings-present.ensures i) (c.next_codings-next.ensures i)) ++ spell_values (c.letter_codings.ensures i) ∷ [] in
    subst Q same made

pub returns-clause-steps : goal.returns-clause-steps
returns-clause-steps c =
    related c.args.space.now (net_of c.args.net.now) (spots_in c.args.frame.now c.args.slot) c.requires.sound c.requires.placed c.all_values-letters.new.space c.add.new.parts (returns-clause-parts c)
