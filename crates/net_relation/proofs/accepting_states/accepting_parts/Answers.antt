use Rattle.std.proofs.Common.{◌≡◌, ◌∙◌, ◌==◌, ◌<◌, ◌++◌, ◌∷◌, [], ℕ, Bool, List, length, map, get_or, ap, sym, subst, arith}
use Rattle.std.proofs.lemmas.List.{get_or_default}
use Rattle.name_table.specs.ScopeVars.{variable_at}
use Rattle.node_table.specs.Table.{Bits, Table as Nodes}
use Rattle.mv_encoding.specs.Layouts.{Layout, number_of, IsLaid}
use Rattle.mv_encoding.specs.Spots.{AreSpots, AreLaid, variables_at, spot_at}
use Rattle.net_model.specs.Nets.{Net, Table, table_of, latch_of, net_of}
use Rattle.table_parts.specs.TableParts.{IsTableOver, part_value}
use Rattle.net_frame.specs.Frames.{spots_in}
use Rattle.net_frame.specs.Placing.{FileSpots}
use Rattle.net_relation.specs.Relations.{AreFor, ArePresentAt, present_values}
use Rattle.net_relation.specs.States.{accepting_meanings}
use Rattle.net_relation.proofs.Added.{added-so}
use Rattle.net_relation.proofs.Spelled.{nowhere}
use Rattle.net_relation.proofs.PlacedNet as placed-net
use Rattle.net_relation.proofs.PlacedNet.{spot-is}
use Rattle.net_relation.proofs.accepting_states.accepting_parts.Goals as goal

pub add_table-requires-clause-signals : goal.add_table-requires-clause-signals
add_table-requires-clause-signals c =
    subst AreSpots (sym c.signal_codings-signals.ensures) (placed-net.signals-are c.args.space.now (net_of c.args.net.now) (spots_in c.args.frame.now c.args.slot) c.requires.sound c.requires.placed)

pub add_table-requires-clause-laid : goal.add_table-requires-clause-laid
add_table-requires-clause-laid c =
    let P : List Layout → Type 0 = λ l. AreLaid c.args.space.now l in
    subst P (sym c.signal_codings-signals.ensures) c.requires.placed.signals_laid

pub add_table-requires-clause-table : goal.add_table-requires-clause-table
add_table-requires-clause-table c =
    let net : Net = net_of c.args.net.now in
    let spots : FileSpots = spots_in c.args.frame.now c.args.slot in
    let P : List Layout → Type 0 = λ l. IsTableOver (variables_at l) (table_of c.args.table.now) in
    let Q : Table → Type 0 = λ table. IsTableOver (variables_at spots.signals) table in
    let held = c.requires.held in
    subst P (sym c.signal_codings-signals.ensures) (subst Q held.2 (placed-net.tables-over c.args.space.now net spots c.requires.sound c.requires.placed held.0 (table_of c.args.table.now) held.1))

pub bounds-signals-signal : goal.bounds-signals-signal
bounds-signals-signal c =
    let known = placed-net.acc-known c.args.space.now (net_of c.args.net.now) (spots_in c.args.frame.now c.args.slot) c.requires.sound c.requires.placed c.args.signal.0 c.requires.acc in
    let same = ap length c.signal_codings-signals.ensures in
    omega (arith, known, same)

pub cube-one-requires-clause-var : goal.cube-one-requires-clause-var
cube-one-requires-clause-var c =
    let net : Net = net_of c.args.net.now in
    let spots : FileSpots = spots_in c.args.frame.now c.args.slot in
    let known = placed-net.acc-known c.args.space.now net spots c.requires.sound c.requires.placed c.args.signal.0 c.requires.acc in
    let at = spot-is c.signal_codings-signals.result.now spots.signals c.signal_codings-signals.ensures c.args.signal.0 c.index-signals-signal.result known c.index-signals-signal.is in
    let one = ap (λ s. length s.scope) at ∙ ap length (placed-net.scope-at spots.signals net.names c.requires.placed.signals c.args.signal.0 known) in
    omega (arith, one)

pub cube-one-requires-clause-value : goal.cube-one-requires-clause-value
cube-one-requires-clause-value c =
    let net : Net = net_of c.args.net.now in
    let spots : FileSpots = spots_in c.args.frame.now c.args.slot in
    let known = placed-net.acc-known c.args.space.now net spots c.requires.sound c.requires.placed c.args.signal.0 c.requires.acc in
    let at = spot-is c.signal_codings-signals.result.now spots.signals c.signal_codings-signals.ensures c.args.signal.0 c.index-signals-signal.result known c.index-signals-signal.is in
    let scope = ap (λ s. s.scope) at ∙ placed-net.scope-at spots.signals net.names c.requires.placed.signals c.args.signal.0 known in
    let two = ap (λ s. length (variable_at s 0).values) scope ∙ (c.requires.sound.conditions.acceptance c.args.signal.0 c.requires.acc).binary in
    omega (arith, two)

pub cube-one-requires-clause-levels : goal.cube-one-requires-clause-levels
cube-one-requires-clause-levels c =
    let t : Nodes = c.add_table.new.space in
    let net : Net = net_of c.args.net.now in
    let spots : FileSpots = spots_in c.args.frame.now c.args.slot in
    let known = placed-net.acc-known c.args.space.now net spots c.requires.sound c.requires.placed c.args.signal.0 c.requires.acc in
    let at = spot-is c.signal_codings-signals.result.now spots.signals c.signal_codings-signals.ensures c.args.signal.0 c.index-signals-signal.result known c.index-signals-signal.is in
    let P : Layout → Type 0 = λ s. IsLaid s t in
    subst P (sym at) ((placed-net.placed-later c.args.space.now t net spots c.in_ok-add_table.ensures.levels c.requires.placed).signals_laid c.args.signal.0 nowhere known)

pub add_present-requires : goal.add_present-requires
add_present-requires c =
    let t : Nodes = c.cube-one.new.space in
    let net : Net = net_of c.args.net.now in
    let spots : FileSpots = spots_in c.args.frame.now c.args.slot in
    placed-net.of-three (ArePresentAt t) c.signal_codings-signals.ensures (ap (map latch_of) c.deref.ensures.value) c.present_codings-present.ensures
    (placed-net.present-at t net spots c.requires.sound (placed-net.placed-later c.args.space.now t net spots (c.cube-one.ensures.levels ∙ c.in_ok-add_table.ensures.levels) c.requires.placed))

pub returns-clause-parts : goal.returns-clause-parts
returns-clause-parts c =
    let net : Net = net_of c.args.net.now in
    let spots : FileSpots = spots_in c.args.frame.now c.args.slot in
    let signal : ℕ = c.args.signal.0 in
    let known = placed-net.acc-known c.args.space.now net spots c.requires.sound c.requires.placed signal c.requires.acc in
    let at = spot-is c.signal_codings-signals.result.now spots.signals c.signal_codings-signals.ensures signal c.index-signals-signal.result known c.index-signals-signal.is in
    let P : List ℕ → Type 0 = λ refs. AreFor c.args.space.now refs [] in
    let Q : List (Bits → Bool) → Type 0 = λ ms. AreFor c.add_present.new.space c.add_present.new.parts ms in
    let table = c.in_ok-add_table.ensures.ok [] (subst P (sym c.new-parts.ensures) tt) in
    let one = added-so c.add_table.new.space c.cube-one.new.space c.cube-one.result (λ bits. number_of c.index-signals-signal.result 0 bits == 1) c.add_table.new.parts c.add.new.parts
    c.cube-one.ensures.grows c.cube-one.ensures.ok c.in_ok-add.ensures.ok _ table in
    let made = c.in_ok-add_present.ensures.ok _ one in
    let same : (part_value c.signal_codings-signals.result.now (table_of c.args.table.now) ∷ (λ bits. number_of c.index-signals-signal.result 0 bits == 1) ∷ []) ++ present_values c.signal_codings-signals.result.now (map latch_of c.deref.result.now) c.present_codings-present.result.now ≡ accepting_meanings net spots (table_of c.args.table.now) signal
    = λ i. (part_value (c.signal_codings-signals.ensures i) (table_of c.args.table.now) ∷ (λ bits. number_of (at i) 0 bits == 1) ∷ []) ++ present_values (c.signal_codings-signals.ensures i) (map latch_of (c.deref.ensures.value i)) (c.present_codings-present.ensures i) in
    subst Q same made
