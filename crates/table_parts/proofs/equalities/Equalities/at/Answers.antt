use Rattle.std.proofs.Common.{◌==◌, ◌∙◌, []}
use Rattle.std.proofs.lemmas.List.{get_or_default}
use Rattle.mv_encoding.specs.Layouts.{Layout, number_of}
use Rattle.table_parts.proofs.Kept.{right-later, right-held}
use Rattle.table_parts.proofs.Spelled.{Found, found}
use Rattle.table_parts.proofs.equalities.Equalities.at.Goals as goal

input : (c : goal.After-same_number-arg-1) → Found c.args.signals.now c.args.space.now c.args.pair.now.input c.index-signals-pair.result
input c =
    found c.args.signals.now c.args.space.now c.args.pair.now.input c.index-signals-pair.result c.requires.signals c.requires.laid c.requires.known.0 c.index-signals-pair.is

column : (c : goal.After-same_number-arg-1) → Found c.args.signals.now c.args.space.now c.args.pair.now.column c.index-signals-pair-2.result
column c =
    found c.args.signals.now c.args.space.now c.args.pair.now.column c.index-signals-pair-2.result c.requires.signals c.requires.laid c.requires.known.1 c.index-signals-pair-2.is

pub same_number-requires-clause-spots : goal.same_number-requires-clause-spots
same_number-requires-clause-spots c = ((input c).single, (column c).single)

pub same_number-requires-clause-laid : goal.same_number-requires-clause-laid
same_number-requires-clause-laid c = ((input c).laid, (column c).laid)

pub returns-clause-right : goal.returns-clause-right
returns-clause-right c =
    let signals = c.args.signals.now in
    let none : Layout = record { scope = []; first = 0 } in
    let same = c.in_ok-r.ensures in
    let first = c.index-signals-pair.is ∙ get_or_default signals c.args.pair.now.input c.index-signals-pair.result none c.requires.known.0 in
    let second = c.index-signals-pair-2.is ∙ get_or_default signals c.args.pair.now.column c.index-signals-pair-2.result none c.requires.known.1 in
    right-held signals c.same_number.new.space c.args.self.now c.hold.new.self c.args.pair.now c.in_ok-r.r c.in_ok-hold.ensures.held
    (right-later signals c.args.space.now c.same_number.new.space c.args.self.now same.grows c.requires.right)
    (record { valid = same.ok.valid; value = λ bits. same.ok.value bits ∙ (λ i. number_of (first i) 0 bits == number_of (second i) 0 bits) })
