use Rattle.std.proofs.Common.{◌==◌, ◌∙◌, ℕ, not, get_or, sym, ap}
use Rattle.std.specs.Prelude.{slice_index}
use Rattle.net_model.specs.declared.net.Entry as declared_entry
use Rattle.net_model.specs.Nets.{entry_of}
use Rattle.net_model.specs.Tables.{is_value_of, entry_allows}
use Rattle.node_table.specs.Table.{Bits, value_at}
use Rattle.mv_encoding.specs.Layouts.{number_of}
use Rattle.mv_encoding.specs.Spots.{spelled}
use Rattle.table_parts.specs.declared.equalities.Pair.{Pair}
use Rattle.table_parts.specs.Held.{spell_same}
use Rattle.table_parts.specs.Columns.{numbers_in}
use Rattle.table_parts.proofs.Spelled.{found, values-known, asks, asked-bits, asked-number, stands-same, swapped}
use Rattle.table_parts.proofs.entries.entry_part.Goals as goal

pub cube-requires-clause-levels : goal.cube-requires-clause-levels
cube-requires-clause-levels c =
    (found c.args.signals.now c.args.space.now c.args.column.0 c.index-signals-column.result c.requires.signals c.requires.laid c.requires.column c.index-signals-column.is).laid

pub one_of-requires-clause-column : goal.one_of-requires-clause-column
one_of-requires-clause-column c =
    (found c.args.signals.now c.args.space.now c.args.column.0 c.index-signals-column.result c.requires.signals c.requires.laid c.requires.column c.index-signals-column.is).some

pub one_of-requires-clause-laid : goal.one_of-requires-clause-laid
one_of-requires-clause-laid c =
    (found c.args.signals.now c.args.space.now c.args.column.0 c.index-signals-column.result c.requires.signals c.requires.laid c.requires.column c.index-signals-column.is).laid

pub one_of-requires-clause-values : goal.one_of-requires-clause-values
one_of-requires-clause-values c =
    let f = found c.args.signals.now c.args.space.now c.args.column.0 c.index-signals-column.result c.requires.signals c.requires.laid c.requires.column c.index-signals-column.is in
    values-known c.args.signals.now c.args.space.now c.args.column.0 c.index-signals-column.result c.in-OneOf.values.items c.deref.result.now f c.deref.ensures.value (rw c.in-OneOf.is at c.requires.entry)

pub one_of-requires-in-NotOneOf-clause-column : goal.one_of-requires-in-NotOneOf-clause-column
one_of-requires-in-NotOneOf-clause-column c =
    (found c.args.signals.now c.args.space.now c.args.column.0 c.index-signals-column.result c.requires.signals c.requires.laid c.requires.column c.index-signals-column.is).some

pub one_of-requires-in-NotOneOf-clause-laid : goal.one_of-requires-in-NotOneOf-clause-laid
one_of-requires-in-NotOneOf-clause-laid c =
    (found c.args.signals.now c.args.space.now c.args.column.0 c.index-signals-column.result c.requires.signals c.requires.laid c.requires.column c.index-signals-column.is).laid

pub one_of-requires-in-NotOneOf-clause-values : goal.one_of-requires-in-NotOneOf-clause-values
one_of-requires-in-NotOneOf-clause-values c =
    let f = found c.args.signals.now c.args.space.now c.args.column.0 c.index-signals-column.result c.requires.signals c.requires.laid c.requires.column c.index-signals-column.is in
    values-known c.args.signals.now c.args.space.now c.args.column.0 c.index-signals-column.result c.in-NotOneOf.values.items c.deref-in-NotOneOf.result.now f c.deref-in-NotOneOf.ensures.value (rw c.in-NotOneOf.is at c.requires.entry)

pub at-requires-clause-bits : goal.at-requires-clause-bits
at-requires-clause-bits c =
    let wants = rw c.in-Equal.is at c.requires.entry in
    asked-bits c.args.signals.now c.args.ins.now c.in-Equal.input c.args.column.0 (asks c.args.signals.now c.args.ins.now c.in-Equal.input c.args.column.0 c.requires.ins c.requires.column wants.0 wants.1) c.requires.signals

pub returns-in-Value-clause-ok : goal.returns-in-Value-clause-ok
returns-in-Value-clause-ok c =
    let signals = c.args.signals.now in
    let column : ℕ = c.args.column.0 in
    let spot = c.index-signals-column.result in
    let f = found signals c.args.space.now column spot c.requires.signals c.requires.laid c.requires.column c.index-signals-column.is in
    let allows = λ (bits : Bits) (entry : declared_entry.Entry). entry_allows (numbers_in signals c.args.ins.now bits) (entry_of entry) (slice_index (spelled signals bits) column) in
    stands-same c.cube.result c.cube.new.space (λ bits. number_of spot 0 bits == c.in-Value.value) (λ bits. allows bits c.args.entry.now)
    (λ bits. swapped (number_of spot 0 bits) c.in-Value.value ∙ ap (λ n. c.in-Value.value == n) (f.number bits) ∙ sym (ap (allows bits) c.in-Value.is))
    c.cube.ensures.ok

pub returns-in-OneOf-clause-ok : goal.returns-in-OneOf-clause-ok
returns-in-OneOf-clause-ok c =
    let signals = c.args.signals.now in
    let column : ℕ = c.args.column.0 in
    let spot = c.index-signals-column.result in
    let f = found signals c.args.space.now column spot c.requires.signals c.requires.laid c.requires.column c.index-signals-column.is in
    let allows = λ (bits : Bits) (entry : declared_entry.Entry). entry_allows (numbers_in signals c.args.ins.now bits) (entry_of entry) (slice_index (spelled signals bits) column) in
    stands-same c.one_of.result c.one_of.new.space (λ bits. is_value_of c.deref.result.now (number_of spot 0 bits)) (λ bits. allows bits c.args.entry.now)
    (λ bits. (λ i. is_value_of (c.deref.ensures.value i) (f.number bits i)) ∙ sym (ap (allows bits) c.in-OneOf.is))
    c.one_of.ensures.ok

pub returns-in_ok-denied-in-NotOneOf-clause-ok : goal.returns-in_ok-denied-in-NotOneOf-clause-ok
returns-in_ok-denied-in-NotOneOf-clause-ok c =
    let signals = c.args.signals.now in
    let column : ℕ = c.args.column.0 in
    let spot = c.index-signals-column.result in
    let f = found signals c.args.space.now column spot c.requires.signals c.requires.laid c.requires.column c.index-signals-column.is in
    let allows = λ (bits : Bits) (entry : declared_entry.Entry). entry_allows (numbers_in signals c.args.ins.now bits) (entry_of entry) (slice_index (spelled signals bits) column) in
    let denied = c.in_ok-denied-in-NotOneOf in
    stands-same c.not.result c.not.new.space (λ bits. not (value_at c.one_of-in-NotOneOf.new.space denied.denied bits)) (λ bits. allows bits c.args.entry.now)
    (λ bits. ap not (denied.ensures.ok.value bits ∙ λ i. is_value_of (c.deref-in-NotOneOf.ensures.value i) (f.number bits i)) ∙ sym (ap (allows bits) c.in-NotOneOf.is))
    c.not.ensures.ok

pub returns-in-Equal-clause-ok : goal.returns-in-Equal-clause-ok
returns-in-Equal-clause-ok c =
    let signals = c.args.signals.now in
    let column : ℕ = c.args.column.0 in
    let allows = λ (bits : Bits) (entry : declared_entry.Entry). entry_allows (numbers_in signals c.args.ins.now bits) (entry_of entry) (slice_index (spelled signals bits) column) in
    let wants = rw c.in-Equal.is at c.requires.entry in
    let a = asks signals c.args.ins.now c.in-Equal.input column c.requires.ins c.requires.column wants.0 wants.1 in
    let pair : Pair = record { input = (get_or c.args.ins.now c.in-Equal.input (record { 0 = 0 })).0; column = column } in
    stands-same c.at.result c.at.new.space (spell_same signals pair) (λ bits. allows bits c.args.entry.now)
    (λ bits. asked-number signals c.args.ins.now c.in-Equal.input column a bits ∙ sym (ap (allows bits) c.in-Equal.is))
    c.at.ensures.ok
