use Rattle.std.proofs.Common.{◌<◌, length, map, get_or, Contains, refl, ap, ◌∙◌, arith}
use Rattle.net_model.specs.Nets as nets
use Rattle.net_model.specs.Nets.{table_of, net_of}
use Rattle.net_conditions.proofs.Closure.{varying_more}
use Rattle.net_conditions.proofs.Listed.{image_member}
use Rattle.net_conditions.proofs.Named.{are_below, table_outs_known}
use Rattle.net_conditions.proofs.spreading.add_at.Goals as goal

pub add_outputs_of-requires : goal.add_outputs_of-requires
add_outputs_of-requires c =
    let table : nets.Table = table_of c.in-Some.table.now in
    let within : c.args.place < length c.args.net.now.tables.items = omega (arith, c.in-Some.ensures.lookup.3.0, ap length c.deref.ensures.value) in
    let held : Contains (map table_of c.args.net.now.tables.items) table = image_member table_of c.args.net.now.tables.items c.args.place c.in-Some.table.now within
    (c.in-Some.ensures.lookup.1 ∙ ap (λ tables. get_or tables c.args.place c.in-Some.table.now) c.deref.ensures.value) in
    are_below (length c.args.net.now.names) (length c.args.varying.now) table.outs table.outs c.requires.varying.len refl
    (table_outs_known (net_of c.args.net.now) table held c.requires.known)

pub returns : goal.returns
returns c =
    let table : nets.Table = table_of c.in-Some.table.now in
    let within : c.args.place < length c.args.net.now.tables.items = omega (arith, c.in-Some.ensures.lookup.3.0, ap length c.deref.ensures.value) in
    let held : Contains (map table_of c.args.net.now.tables.items) table = image_member table_of c.args.net.now.tables.items c.args.place c.in-Some.table.now within
    (c.in-Some.ensures.lookup.1 ∙ ap (λ tables. get_or tables c.args.place c.in-Some.table.now) c.deref.ensures.value) in
    varying_more (net_of c.args.net.now) table c.args.varying.now c.add_outputs_of.new.varying held c.requires.varying c.add_outputs_of.ensures.added
