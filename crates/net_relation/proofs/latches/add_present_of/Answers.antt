use Rattle.std.proofs.Common.{◌&&◌, IfOk, sym, subst}
use Rattle.node_table.specs.Table.{Table}
use Rattle.bdd_ops.specs.Meaning.{StandsFor}
use Rattle.mv_encoding.specs.Layouts.{Layout}
use Rattle.net_relation.specs.Relations.{spells_value, are_alike, has_value_of}
use Rattle.net_relation.proofs.Added.{added}
use Rattle.net_relation.proofs.LatchList.{read-at}
use Rattle.net_relation.proofs.Spelled.{nowhere}
use Rattle.net_relation.proofs.latches.add_present_of.Goals as goal

pub returns-clause-ok : goal.returns-clause-ok
returns-clause-ok c =
    let t : Table = c.value_part-part.new.space in
    let output : Layout = c.index-signals-latch.result in
    let output-is = read-at c.args.signals.now c.args.latch.now.output.0 output nowhere c.requires.output c.index-signals-latch.is in
    let P : Layout → Type 0 = λ o. IfOk c.value_part-part.result (λ r. StandsFor t r (λ bits. spells_value o bits && are_alike c.args.present.now o bits)) in
    added c.args.space.now t c.add.result c.value_part-part.result (has_value_of c.args.signals.now c.args.present.now c.args.latch.now.output.0) c.args.parts.now c.add.new.parts
    c.value_part-part.ensures.grows (subst P (sym output-is) c.value_part-part.ensures.ok) c.add.ensures.ok
