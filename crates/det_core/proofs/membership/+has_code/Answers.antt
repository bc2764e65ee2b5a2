use Rattle.std.proofs.Common.{◌≡◌, ◌-◌, refl, ap, ◌∙◌, subst, arith}
use Rattle.node_table.specs.Table.{IsEnd}
use Rattle.bdd_ops.specs.Words.{bit_of}
use Rattle.bdd_ops.proofs.Renamed.{end-depends}
use Rattle.mv_encoding.specs.Layouts.{levels_of}
use Rattle.det_core.proofs.Reading.{asks-code, end-has, constant-has}
use Rattle.det_core.proofs.membership.+has_code.Goals as goal

pub returns-in_default : goal.returns-in_default
returns-in_default t c bits has =
    c.eq.ensures ∙ constant-has c.args.space.now c.args.letters bits (c.in_default.ensures.constant.0 refl)

pub overflow_sub-place : goal.overflow_sub-place
overflow_sub-place t c =
    let node = c.in-Some.ensures.level in
    let laid = asks-code c.args.space.now c.args.coding.now c.args.letters c.requires.valid c.requires.reads node.0 in
    omega (arith, laid.0, node.1, c.first.ensures)

pub bit-requires : goal.bit-requires
bit-requires t c =
    let node = c.in-Some.ensures.level in
    let laid = asks-code c.args.space.now c.args.coding.now c.args.letters c.requires.valid c.requires.reads node.0 in
    omega (arith, laid.0, laid.1, node.1, c.first.ensures, c.bits-bits.ensures.bits, c.bits-bits.ensures.few)

pub has_code-requires : goal.has_code-requires
has_code-requires t c =
    (omega (arith, c.end.ensures.older, c.decreases), (c.end.ensures.valid, end-depends c.args.space.now (levels_of c.args.coding.now) c.args.letters c.requires.valid c.requires.reads c.bit.result c.end.result c.end.ensures))

pub returns : goal.returns
returns t c bits has =
    let node = c.in-Some.ensures.level in
    let place : c.bit.result ≡ bit_of c.args.code.now (c.in-Some.level - c.args.coding.now.first) = c.bit.ensures ∙ ap (λ first. bit_of c.args.code.now (c.in-Some.level - first)) c.first.ensures in
    c.has_code.ensures bits has
    ∙ end-has c.args.space.now c.args.coding.now c.args.letters c.requires.valid c.requires.reads (bit_of c.args.code.now) c.in-Some.level c.end.result bits node.0 node.1 has
    (subst (λ bit. IsEnd c.args.space.now c.args.letters bit c.end.result) place c.end.ensures)
