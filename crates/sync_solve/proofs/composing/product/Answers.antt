use Rattle.std.proofs.Common.{◌∙◌, ◌++◌, ap, arith}
use Rattle.node_table.proofs.Growth.{grows-trans}
use Rattle.mv_encoding.specs.Spots.{spell_values}
use Rattle.sync_solve.specs.Codes.{code_back}
use Rattle.sync_solve.proofs.Composed.{guards-later, held-later, coded-held, product-is}
use Rattle.sync_solve.proofs.composing.product.Goals as goal

pub coded-requires-clause-guards : goal.coded-requires-clause-guards
coded-requires-clause-guards c =
    guards-later c.args.space.now c.push_levels-first.new.self c.push_levels-first.ensures.grows (spell_values c.args.frame.now.s.letters) c.args.others.now c.requires.rule

pub beside-requires-clause-first : goal.beside-requires-clause-first
beside-requires-clause-first c =
    let (file, are) = c.requires.f in
    held-later c.args.space.now c.coded.new.space
    (grows-trans c.args.space.now c.push_levels-first.new.self c.coded.new.space c.push_levels-first.ensures.grows c.coded.ensures.grows) file c.args.frame.now.f c.args.f are

pub beside-requires-clause-second : goal.beside-requires-clause-second
beside-requires-clause-second c =
    coded-held c.push_levels-first.new.self c.coded.new.space c.args.others.now c.push_levels-first.result c.in_ok-digits.digits c.in_ok-own.own c.in_ok-own.ensures.ok

pub returns-in-Ok-clause-ok : goal.returns-in-Ok-clause-ok
returns-in-Ok-clause-ok c file are =
    let levels = ap (λ t. t.levels) c.push_levels-first.ensures.levels in
    let coded = c.coded.ensures.levels in
    let beside = c.beside.ensures.levels in
    let first = c.push_levels-first.ensures.first in
    product-is c.args.space.now c.push_levels-first.new.self c.coded.new.space c.beside.new.space c.args.frame.now file c.args.f c.in_ok-own.own c.in-Ok.both c.args.others.now
    c.push_levels-first.result c.in_ok-digits.digits c.in_ok-back.back are c.requires.order c.digits_of.ensures.det c.requires.rule c.requires.reads first
    c.in_ok-digits.ensures.enough c.push_levels-first.ensures.grows
    (grows-trans c.args.space.now c.push_levels-first.new.self c.coded.new.space c.push_levels-first.ensures.grows c.coded.ensures.grows)
    (omega (arith, levels, coded, beside, first)) c.in_ok-own.ensures.ok c.in-Ok.ensures.ok (c.in_ok-back.ensures ∙ ap (λ l. l ++ code_back c.push_levels-first.result c.in_ok-digits.digits) c.back.ensures)
